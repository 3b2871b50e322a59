use Rattle.std.proofs.Common.{◌≡◌, sym, ap, ◌∙◌, arith, length, length-append}
use Rattle.std.proofs.Common.{ℕ}
use Rattle.bptree_nodes.specs.Leaf.{Leaf}
use Rattle.bptree_nodes.specs.Slot.{Slot}
use Rattle.bptree_rebalancing.proofs.Triples.{leaves_unmerged_at}
use Rattle.bptree_propagation.proofs.Undone.{same_node}
use Rattle.bptree_rebalancing.proofs.siblings.undo_merge_leaves_at.Goals as goal

pub undo_merge_leaves-requires-clause-kept : goal.undo_merge_leaves-requires-clause-kept
undo_merge_leaves-requires-clause-kept g c =
    let merged = c.requires.1 in
    let old = g.S.NodeStore.slots c.args.store.now in
    let t1 = c.take_inner-node in
    let t2 = c.take_leaf-one in
    let there = sym (ap (λ (f : ℕ → Slot (Leaf g.row.S-K.Denot g.row.S-V.Denot)). f c.args.left.0) t1.ensures.updates.leaf) ∙ t2.ensures.value in
    let one = same_node (old.leaf c.args.left.0) t2.result.value merged.three.one' there merged.three.is_left in
    let kept : c.args.kept ≡ length merged.three.one.pairs = rw merged.three.at_left at c.requires.2 in
    rw (c.deref_mut-2.ensures.value, one) (omega (arith, kept, ap (λ (l : Leaf g.row.S-K.Denot g.row.S-V.Denot). length l.pairs) merged.transfers.leaves.left_is, length-append merged.three.one.pairs merged.three.other.pairs))

pub returns : goal.returns
returns g c was merged kept read next =
    leaves_unmerged_at was c.args.id c.take_inner-node.ensures.value c.take_inner-node.ensures.updates c.args.left c.args.right c.take_leaf-one.ensures.value c.take_leaf-one.ensures.updates c.put_back_inner.ensures c.assign_leaf.ensures c.assign_leaf-2.ensures
    merged ((rw (c.deref_mut.ensures.value, c.deref_mut-2.ensures.value, c.deref_mut-3.ensures.value) at c.undo_merge_leaves.ensures).undoes) kept read next

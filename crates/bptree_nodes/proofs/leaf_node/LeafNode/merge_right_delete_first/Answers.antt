use Rattle.std.proofs.Common.{refl, arith, ap, length}
use Rattle.std.proofs.lemmas.List.Edits.{length-remove}
use Rattle.bptree_nodes.proofs.leaf_node.LeafNode.merge_right_delete_first.Goals as goal

pub delete_at-removed-requires : goal.delete_at-removed-requires
delete_at-removed-requires g c = rw c.deref_mut.ensures.value c.requires.within

pub merge_right-requires : goal.merge_right-requires
merge_right-requires g c =
    let left = ap (λ leaf. length leaf.pairs) c.delete_at-removed.ensures.after in
    let held = ap (λ leaf. length leaf.pairs) c.deref_mut.ensures.value in
    omega (arith, left, held, length-remove c.deref_mut.result.now.pairs c.args.slot (rw c.deref_mut.ensures.value c.requires.within), c.requires.room)

pub returns-clause-pair : goal.returns-clause-pair
returns-clause-pair g c = rw (← c.deref_mut.ensures.value) c.delete_at-removed.ensures.pair

pub returns-clause-after : goal.returns-clause-after
returns-clause-after g c = rw (c.merge_right.ensures.after, c.delete_at-removed.ensures.after, c.deref_mut.ensures.value) refl

pub returns-clause-fits : goal.returns-clause-fits
returns-clause-fits g c = c.merge_right.ensures.fits

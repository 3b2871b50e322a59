use Rattle.std.proofs.Common.{◌≡◌, ◌∙◌, ap, arith, length, refl, subst, sym, IsSome}
use Rattle.bptree_keys.specs.declared.node_id.LeafNodeId.{LeafNodeId}
use Rattle.bptree_invariant.specs.Shape.{leaf_pairs}
use Rattle.bptree_tree.proofs.UpdateLemmas.{next_there, present_now, present_node, rises_here, same_leaf, walked_last, walked_leaf, walked_none, within_last, within_leaf}
use Rattle.bptree_tree.proofs.tree.updating.update_leaves.Goals as goal

pub leaves-init : goal.leaves-init
leaves-init g c = record {
  callable = c.requires.callable;
  walked = walked_none g.F.FnMut (g.S.NodeStore.slots c.args.store.now) c.args.height c.args.root c.args.f c.args.front c.args.back c.requires.front c.requires.rises;
}

pub get_leaf-leaf-requires : goal.get_leaf-leaf-requires
get_leaf-leaf-requires g c =
    present_now g.S.Argument.Argument.is_summary g.F.FnMut (g.S.NodeStore.slots c.args.store.now) c.args.height c.args.root c.args.f c.args.front c.args.back c.requires.shape c.requires.back c.requires.rises
    c.leaves.f c.leaves.at c.leaves.from (g.S.NodeStore.slots c.leaves.store) c.leaves.invariant.walked

pub unwrap-next-requires : goal.unwrap-next-requires
unwrap-next-requires g c =
    let apart = λ (same : c.leaves.at ≡ c.args.back.leaf). c.leaves-test.true (c.as_usize.ensures ∙ (ap (λ (x : LeafNodeId). x.0) same ∙ sym c.as_usize-in-leaves.ensures)) in
    let there = next_there g.S.Argument.Argument.is_summary g.F.FnMut (g.S.NodeStore.slots c.args.store.now) c.args.height c.args.root c.args.f c.args.front c.args.back c.requires.shape c.requires.back c.requires.rises
    c.leaves.f c.leaves.at c.leaves.from (g.S.NodeStore.slots c.leaves.store) c.leaves.invariant.walked c.get_leaf-leaf.result.now c.get_leaf-leaf.ensures apart in
    subst IsSome (sym (c.next.ensures ∙ there.1)) refl

pub update_leaf-f-requires-clause-within : goal.update_leaf-f-requires-clause-within
update_leaf-f-requires-clause-within g c =
    let node = c.get_leaf-leaf.result.now in
    let long : length (leaf_pairs ((g.S.NodeStore.slots c.leaves.store).leaf c.leaves.at.0)) ≡ length node.pairs = ap (λ s. length (leaf_pairs s)) c.get_leaf-leaf.ensures in
    let within = within_leaf g.S.Argument.Argument.is_summary g.F.FnMut (g.S.NodeStore.slots c.args.store.now) c.args.height c.args.root c.args.f c.args.front c.args.back c.requires.shape c.requires.back c.requires.rises
    c.leaves.f c.leaves.at c.leaves.from (g.S.NodeStore.slots c.leaves.store) c.leaves.invariant.walked node c.get_leaf-leaf.ensures in
    (omega (arith, within, c.len-len.ensures.value), omega (arith, long, c.len-len.ensures.value))

pub leaves-preserved : goal.leaves-preserved
leaves-preserved g c =
    let node = c.get_leaf-leaf.result.now in
    let apart = λ (same : c.leaves.at ≡ c.args.back.leaf). c.leaves-test.true (c.as_usize.ensures ∙ (ap (λ (x : LeafNodeId). x.0) same ∙ sym c.as_usize-in-leaves.ensures)) in
    let changed = rw c.len-len.ensures.value at (c.update_leaf-f.ensures.changed node c.get_leaf-leaf.ensures) in
    record {
      callable = c.update_leaf-f.ensures.callable;
      walked = (walked_leaf g.S.Argument.Argument.is_summary g.F.FnMut (g.S.NodeStore.slots c.args.store.now) c.args.height c.args.root c.args.f c.args.front c.args.back c.requires.shape c.requires.back c.requires.rises
          c.leaves.f c.leaves.at c.leaves.from (g.S.NodeStore.slots c.leaves.store) c.leaves.invariant.walked node c.get_leaf-leaf.ensures apart c.unwrap-next.result (sym c.next.ensures ∙ c.unwrap-next.ensures)
          c.update_leaf-f.result changed.0 changed.1 (g.S.NodeStore.slots c.update_leaf-f.new.store) changed.2).0;
    }

pub leaves-smaller : goal.leaves-smaller
leaves-smaller g c =
    let node = c.get_leaf-leaf.result.now in
    let apart = λ (same : c.leaves.at ≡ c.args.back.leaf). c.leaves-test.true (c.as_usize.ensures ∙ (ap (λ (x : LeafNodeId). x.0) same ∙ sym c.as_usize-in-leaves.ensures)) in
    let changed = rw c.len-len.ensures.value at (c.update_leaf-f.ensures.changed node c.get_leaf-leaf.ensures) in
    let follows = (walked_leaf g.S.Argument.Argument.is_summary g.F.FnMut (g.S.NodeStore.slots c.args.store.now) c.args.height c.args.root c.args.f c.args.front c.args.back c.requires.shape c.requires.back c.requires.rises
    c.leaves.f c.leaves.at c.leaves.from (g.S.NodeStore.slots c.leaves.store) c.leaves.invariant.walked node c.get_leaf-leaf.ensures apart c.unwrap-next.result (sym c.next.ensures ∙ c.unwrap-next.ensures)
    c.update_leaf-f.result changed.0 changed.1 (g.S.NodeStore.slots c.update_leaf-f.new.store) changed.2).1 in
    omega (arith, follows.later, follows.more)

pub update_leaf-requires-clause-present : goal.update_leaf-requires-clause-present
update_leaf-requires-clause-present g c =
    present_now g.S.Argument.Argument.is_summary g.F.FnMut (g.S.NodeStore.slots c.args.store.now) c.args.height c.args.root c.args.f c.args.front c.args.back c.requires.shape c.requires.back c.requires.rises
    c.leaves.f c.leaves.at c.leaves.from (g.S.NodeStore.slots c.leaves.store) c.leaves.invariant.walked

pub update_leaf-requires-clause-within : goal.update_leaf-requires-clause-within
update_leaf-requires-clause-within g c =
    let slots = g.S.NodeStore.slots c.leaves.store in
    let same : c.leaves.at ≡ c.args.back.leaf = same_leaf _ _ (sym c.as_usize.ensures ∙ (c.leaves-test.false ∙ c.as_usize-in-leaves.ensures)) in
    let present = present_now g.S.Argument.Argument.is_summary g.F.FnMut (g.S.NodeStore.slots c.args.store.now) c.args.height c.args.root c.args.f c.args.front c.args.back c.requires.shape c.requires.back c.requires.rises
    c.leaves.f c.leaves.at c.leaves.from slots c.leaves.invariant.walked in
    let here = present_node (slots.leaf c.leaves.at.0) present in
    let long : length (leaf_pairs (slots.leaf c.leaves.at.0)) ≡ length here.0.pairs = ap (λ s. length (leaf_pairs s)) here.1 in (
      rises_here g.S.Argument.Argument.is_summary g.F.FnMut (g.S.NodeStore.slots c.args.store.now) c.args.height c.args.root c.args.f c.args.front c.args.back c.requires.shape c.requires.back c.requires.rises
          c.leaves.f c.leaves.at c.leaves.from slots c.leaves.invariant.walked here.0 here.1 same,
      rw long (within_last g.S.Argument.Argument.is_summary g.F.FnMut (g.S.NodeStore.slots c.args.store.now) c.args.height c.args.root c.args.f c.args.front c.args.back c.requires.shape c.requires.back c.requires.rises
          c.leaves.f c.leaves.at c.leaves.from slots c.leaves.invariant.walked here.0 here.1 same),
    )

pub returns : goal.returns
returns g c =
    let slots = g.S.NodeStore.slots c.leaves.store in
    let same : c.leaves.at ≡ c.args.back.leaf = same_leaf _ _ (sym c.as_usize.ensures ∙ (c.leaves-test.false ∙ c.as_usize-in-leaves.ensures)) in
    let present = present_now g.S.Argument.Argument.is_summary g.F.FnMut (g.S.NodeStore.slots c.args.store.now) c.args.height c.args.root c.args.f c.args.front c.args.back c.requires.shape c.requires.back c.requires.rises
    c.leaves.f c.leaves.at c.leaves.from slots c.leaves.invariant.walked in
    let here = present_node (slots.leaf c.leaves.at.0) present in
    let changed = c.update_leaf.ensures.changed here.0 here.1 in
    let all = walked_last g.S.Argument.Argument.is_summary g.F.FnMut (g.S.NodeStore.slots c.args.store.now) c.args.height c.args.root c.args.f c.args.front c.args.back c.requires.shape c.requires.back c.requires.rises
    c.leaves.f c.leaves.at c.leaves.from slots c.leaves.invariant.walked here.0 here.1 same c.update_leaf.result changed.0 changed.1 (g.S.NodeStore.slots c.update_leaf.new.store) changed.2 in
    record { shape = all.0; changed = all.1 }

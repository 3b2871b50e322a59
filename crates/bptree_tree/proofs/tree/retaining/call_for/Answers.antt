use Rattle.std.proofs.Common.{◌≡◌, ◌∙◌, ap, false, refl, true, is_some, Ok, Err, None}
use Rattle.bptree_keys.specs.Contents.{IsAscending, value}
use Rattle.bptree_keys.proofs.Equal.{has_where_value}
use Rattle.bptree_search.proofs.Beside.{slot_there, value_missing}
use Rattle.bptree_invariant.specs.Shape.{root_least, pairs_at}
use Rattle.bptree_invariant.proofs.Walk.{tree_ascends}
use Rattle.bptree_tree.proofs.BorrowedAt.{borrowed_right}
use Rattle.bptree_tree.proofs.RetainLemmas.{calls_for}
use Rattle.bptree_tree.proofs.tree.retaining.call_for.Goals as goal

pub unreachable-requires : goal.unreachable-requires
unreachable-requires g c =
    let tree = c.tree.inside in
    let slots = g.S.NodeStore.slots tree.store in
    let cmp = g.S.K.Ord.cmp in
    let k = c.args.k.now in
    let none : None ≡ value cmp (pairs_at slots tree.height tree.root) k =
    value_missing g.met.S.K.Ord.total g.S.Argument.Argument.is_summary slots tree.height tree.root c.tree.invariant.0 k c.in_default.field-0.leaf (Err c.in_default.field-0.slot) (rw (← c.tree.view_is) at c.in_default.ensures) c.in_default.field-0.slot refl in
    let z : false ≡ true = ap is_some none ∙ (has_where_value cmp (pairs_at slots tree.height tree.root) k ∙ rw (← c.tree.view_is) at c.requires.there) in
    absurd cc

pub call_at-requires-clause-within : goal.call_at-requires-clause-within
call_at-requires-clause-within g c =
    let tree = c.tree.inside in
    slot_there g.met.S.K.Ord.total g.S.Argument.Argument.is_summary (g.S.NodeStore.slots tree.store) tree.height tree.root c.tree.invariant.0 c.args.k.now c.in-Ok.at.leaf (Ok c.in-Ok.at.slot) (rw (← c.tree.view_is) at c.in-Ok.ensures) c.get_mut_leaf.result.now c.get_mut_leaf.ensures.value c.in-Ok.at.slot refl

pub invariant_of-tree : goal.invariant_of-tree
invariant_of-tree g c =
    let tree = c.tree.inside in
    let slots = g.S.NodeStore.slots in
    let leaf = c.in-Ok.at.leaf in
    let node = c.get_mut_leaf.result.now in
    let called = c.call_at.ensures.called in
    let place = rw (← c.tree.view_is) at c.in-Ok.ensures in
    let stored = place.for_key.stored in
    let updates = g.met.S.NodeStore.with_leaf_updates tree.store leaf.0 c.call_at.new.self stored.present in
    borrowed_right g.S.K.Ord.cmp g.S.Argument.Argument.is_summary (slots tree.store) (slots (g.S.NodeStore.with_leaf tree.store leaf.0 c.call_at.new.self)) tree.height tree.root c.tree.invariant.0 leaf node c.get_mut_leaf.ensures.value stored c.in-Ok.at.slot called.1 (rw (← called.4) updates)
    tree.len c.tree.invariant.1 tree.summary c.tree.invariant.2

pub returns-clause-called : goal.returns-clause-called
returns-clause-called g c =
    let tree = c.tree.inside in
    let slots = g.S.NodeStore.slots in
    let leaf = c.in-Ok.at.leaf in
    let node = c.get_mut_leaf.result.now in
    let cmp = g.S.K.Ord.cmp in
    let total = g.met.S.K.Ord.total in
    let read = c.get_mut_leaf.ensures.value in
    let place = rw (← c.tree.view_is) at c.in-Ok.ensures in
    let stored = place.for_key.stored in
    let found = rw read at place.index_is in
    let ascending : IsAscending cmp (pairs_at (slots tree.store) tree.height tree.root) = tree_ascends total (slots tree.store) (root_least tree.height) tree.height tree.root None None c.tree.invariant.0.tree in
    let updates = g.met.S.NodeStore.with_leaf_updates tree.store leaf.0 c.call_at.new.self stored.present in
    rw (← c.tree.view_is) (calls_for g.F.FnMut total g.S.Argument.Argument.is_summary (slots tree.store) (slots (g.S.NodeStore.with_leaf tree.store leaf.0 c.call_at.new.self)) tree.height tree.root c.tree.invariant.0 ascending c.args.k.now leaf node read stored c.in-Ok.at.slot found
    c.args.f c.call_at.new.self c.call_at.result c.call_at.ensures.called updates)

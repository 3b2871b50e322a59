use Rattle.std.proofs.Common.{◌≤◌, false, length, refl, subst}
use Rattle.std.specs.Option.{option_map}
use Rattle.bptree_invariant.specs.Shape.{leaf_pairs}
use Rattle.bptree_search.specs.Neighbours.{beside, leaf_of_result, pair_read, slot_of_result}
use Rattle.bptree_search.proofs.Beside.{previous_found, slot_fits, slot_within_leaf}
use Rattle.bptree_search.proofs.neighbours.pair_before.Goals as goal

pub position_beside-requires : goal.position_beside-requires
position_beside-requires g c = let tree = c.tree.inside in slot_fits g.met.S.K.Ord.total g.S.Argument.Argument.is_summary (g.S.NodeStore.slots tree.store) tree.height tree.root c.tree.invariant.0 c.args.key.now (leaf_of_result c.index_of-index.result.1) (slot_of_result c.index_of-index.result.1) (rw (← c.tree.view_is) at c.index_of-index.ensures.index)

pub pair_upto-requires-clause-leaf : goal.pair_upto-requires-clause-leaf
pair_upto-requires-clause-leaf g c = rw c.position_beside.ensures (rw (← c.tree.view_is) at c.index_of-index.ensures.leaf)

pub pair_upto-requires-clause-within : goal.pair_upto-requires-clause-within
pair_upto-requires-clause-within g c =
    let tree = c.tree.inside in
    rw c.position_beside.ensures (subst (λ s. beside (slot_of_result c.index_of-index.result.1) false ≤ length (leaf_pairs s)) (rw (← c.tree.view_is) at c.index_of-index.ensures.leaf)
    (slot_within_leaf g.met.S.K.Ord.total g.S.Argument.Argument.is_summary (g.S.NodeStore.slots tree.store) tree.height tree.root c.tree.invariant.0 c.args.key.now (leaf_of_result c.index_of-index.result.1) (slot_of_result c.index_of-index.result.1) (rw (← c.tree.view_is) at c.index_of-index.ensures.index) _ refl))

pub returns : goal.returns
returns g c =
    let tree = c.tree.inside in
    rw (← c.tree.view_is)
    (previous_found g.met.S.K.Ord.total g.S.Argument.Argument.is_summary (g.S.NodeStore.slots tree.store) tree.height tree.root c.tree.invariant.0 c.args.key.now (leaf_of_result c.index_of-index.result.1) (slot_of_result c.index_of-index.result.1) (rw (← c.tree.view_is) at c.index_of-index.ensures.index) _ (option_map pair_read c.pair_upto.result) refl (rw c.position_beside.ensures at c.pair_upto.ensures))

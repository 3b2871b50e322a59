use Rattle.std.proofs.Common.{refl}
use Rattle.std.specs.Option.{option_map}
use Rattle.bptree_keys.specs.Ends.{is_after}
use Rattle.bptree_search.specs.Neighbours.{leaf_of_result, pair_read, slot_of_result}
use Rattle.bptree_search.proofs.Beside.{found_beside, slot_fits}
use Rattle.bptree_search.proofs.neighbours.pair_past.Goals as goal

pub position_beside-requires : goal.position_beside-requires
position_beside-requires g c = let tree = c.tree.inside in slot_fits g.met.S.K.Ord.total g.S.Argument.Argument.is_summary (g.S.NodeStore.slots tree.store) tree.height tree.root c.tree.invariant.0 c.args._key.now (leaf_of_result c.args.found.1) (slot_of_result c.args.found.1) (rw (← c.tree.view_is) at c.requires.index)

pub pair_from-requires : goal.pair_from-requires
pair_from-requires g c = rw c.position_beside.ensures (rw (← c.tree.view_is) at c.requires.leaf)

pub returns : goal.returns
returns g c =
    let tree = c.tree.inside in
    rw (← c.tree.view_is)
    (found_beside g.met.S.K.Ord.total g.S.Argument.Argument.is_summary (g.S.NodeStore.slots tree.store) tree.height tree.root c.tree.invariant.0 c.args._key.now (leaf_of_result c.args.found.1) (slot_of_result c.args.found.1) (rw (← c.tree.view_is) at c.requires.index) (is_after c.args.side) _ (option_map pair_read c.pair_from.result) refl (rw c.position_beside.ensures at c.pair_from.ensures))

use Rattle.bptree_search.proofs.Beside.{found_at, in_positions, leaf_kept}
use Rattle.bptree_search.proofs.neighbours.search.Goals as goal

pub returns-clause-index : goal.returns-clause-index
returns-clause-index g c =
    let tree = c.tree.inside in
    rw (← c.tree.view_is)
    (in_positions (g.S.NodeStore.slots tree.store) tree.height tree.root c.args.key.now c.leaf_for-hint.result.0 c.locate_slot_counted-index.result c.in_leaf.result c.in_leaf.ensures
    (found_at g.met.S.K.Ord.total g.S.Argument.Argument.is_summary (g.S.NodeStore.slots tree.store) tree.height tree.root c.tree.invariant.0 c.args.key.now c.leaf_for-hint.result.0 c.get_leaf-leaf.result.now c.locate_slot_counted-index.result
    (rw (← c.tree.view_is) at c.leaf_for-hint.ensures.leaf) c.get_leaf-leaf.ensures c.locate_slot_counted-index.ensures.index c.locate_slot_counted-index.ensures.fits))

pub returns-clause-leaf : goal.returns-clause-leaf
returns-clause-leaf g c = rw (← c.tree.view_is, leaf_kept c.leaf_for-hint.result.0 c.locate_slot_counted-index.result c.in_leaf.result c.in_leaf.ensures) c.get_leaf-leaf.ensures

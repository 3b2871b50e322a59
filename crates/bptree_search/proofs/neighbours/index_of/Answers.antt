use Rattle.bptree_search.proofs.Beside.{equal_at, hinted_at, in_positions, leaf_kept}
use Rattle.bptree_search.proofs.neighbours.index_of.Goals as goal

pub returns-then-is_key_at-clause-index : goal.returns-then-is_key_at-clause-index
returns-then-is_key_at-clause-index g c =
    let tree = c.tree.inside in
    rw (← c.tree.view_is)
    (equal_at g.met.S.K.Ord.total g.S.Argument.Argument.is_summary (g.S.NodeStore.slots tree.store) tree.height tree.root c.tree.invariant.0 c.args.key.now c.args.hint.leaf c.in-Some.leaf.now c.args.hint.slot
    c.in-Some.ensures (c.is_key_at.ensures.equal c.if-is_key_at.true) c.is_key_at.ensures.fits)

pub returns-then-in_range-clause-index : goal.returns-then-in_range-clause-index
returns-then-in_range-clause-index g c =
    let tree = c.tree.inside in
    rw (← c.tree.view_is)
    (in_positions (g.S.NodeStore.slots tree.store) tree.height tree.root c.args.key.now c.args.hint.leaf c.locate_slot.result c.in_leaf.result c.in_leaf.ensures
    (hinted_at g.met.S.K.Ord.total g.S.Argument.Argument.is_summary (g.S.NodeStore.slots tree.store) tree.height tree.root c.tree.invariant.0 c.args.key.now c.args.hint.leaf c.in-Some.leaf.now c.locate_slot.result
    c.in_range.result c.in-Some.ensures c.in_range.ensures c.if-in_range.true c.locate_slot.ensures.index c.is_key_at.ensures.fits))

pub returns-then-in_range-clause-leaf : goal.returns-then-in_range-clause-leaf
returns-then-in_range-clause-leaf g c = rw (← c.tree.view_is, leaf_kept c.args.hint.leaf c.locate_slot.result c.in_leaf.result c.in_leaf.ensures) c.in-Some.ensures

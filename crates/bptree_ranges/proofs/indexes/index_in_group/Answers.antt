use Rattle.bptree_search.proofs.Summed.{known_subtree}
use Rattle.bptree_ranges.proofs.GroupIndexes.{group_short, in_group, past_group}
use Rattle.bptree_ranges.proofs.indexes.index_in_group.Goals as goal

pub returns-in-Short : goal.returns-in-Short
returns-in-Short g c =
    let tree = c.tree.inside in
    rw (← c.tree.view_is)
    (group_short g.met.S.K.Ord.total g.met.G.Ord.total g.G.FromRef.group_of g.met.G.FromRef.keeps_order c.args.group.now (g.S.NodeStore.slots tree.store) g.S.Argument.Argument.is_summary tree.height tree.root c.tree.invariant.0 c.args.i c.in-Short.field-0 (rw c.in-Short.is at c.in_ok-skip_from_group.ensures))

pub returns-then-at-end : goal.returns-then-at-end
returns-then-at-end g c =
    let tree = c.tree.inside in
    rw (← c.tree.view_is)
    (in_group g.met.S.K.Ord.total g.met.G.Ord.total g.G.FromRef.group_of g.met.G.FromRef.keeps_order c.args.group.now (g.S.NodeStore.slots tree.store) g.S.Argument.Argument.is_summary tree.height tree.root c.tree.invariant.0 c.args.i c.in-Found.at.leaf c.in-Found.at.slot c.in_ok-end-in-Found.end c.get_leaf.result.now
    (rw c.in-Found.is at c.in_ok-skip_from_group.ensures) c.get_leaf.ensures c.keys.result.now c.keys.ensures.value c.in_ok-end-in-Found.ensures.in_range c.in_ok-end-in-Found.ensures.border c.if-at-end.true)

pub returns-else-at-end : goal.returns-else-at-end
returns-else-at-end g c =
    let tree = c.tree.inside in
    rw (← c.tree.view_is)
    (past_group g.met.S.K.Ord.total g.met.G.Ord.total g.G.FromRef.group_of g.met.G.FromRef.keeps_order c.args.group.now (g.S.NodeStore.slots tree.store) g.S.Argument.Argument.is_summary tree.height tree.root c.tree.invariant.0 c.args.i c.in-Found.at.leaf c.in-Found.at.slot c.in_ok-end-in-Found.end c.get_leaf.result.now
    (rw c.in-Found.is at c.in_ok-skip_from_group.ensures) c.get_leaf.ensures c.keys.result.now c.keys.ensures.value c.in_ok-end-in-Found.ensures.in_range c.in_ok-end-in-Found.ensures.border c.if-at-end.false)

pub skip_from_group-requires : goal.skip_from_group-requires
skip_from_group-requires g c =
    rw (← c.tree.view_is) at (known_subtree g.S.NodeStore.slots c.recall.ensures.whole c.recall.ensures.fits)

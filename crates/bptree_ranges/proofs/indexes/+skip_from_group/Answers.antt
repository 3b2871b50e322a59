use Rattle.std.proofs.Common.{arith}
use Rattle.bptree_search.proofs.Child.{border_child, border_within, below, one_down}
use Rattle.bptree_ranges.proofs.GroupIndexes.{found_behind, found_in_child, found_in_leaf}
use Rattle.bptree_ranges.proofs.indexes.+skip_from_group.Goals as goal

pub child_id-child-requires : goal.child_id-child-requires
child_id-child-requires g t c =
    border_within g.met.S.K.Ord.total g.S.Argument.Argument.is_summary (g.S.NodeStore.slots c.args.store.now) c.args.height c.args.id c.in-Inner.inner c.get_inner-node.result.now c.requires c.in-Inner.is c.get_inner-node.ensures c.keys-in-Inner.result.now c.in_ok-index-in-Inner.index c.keys-in-Inner.ensures.value c.in_ok-index-in-Inner.ensures.in_range

pub skip_from_group-requires : goal.skip_from_group-requires
skip_from_group-requires g t c κs within =
    let total = g.met.S.K.Ord.total in
    let sum = g.S.Argument.Argument.is_summary in
    let slots = g.S.NodeStore.slots c.args.store.now in
    let node = c.get_inner-node.result.now in
    let there = border_child total sum slots c.args.height c.args.id c.in-Inner.inner node c.requires c.in-Inner.is c.get_inner-node.ensures c.keys-in-Inner.result.now c.in_ok-index-in-Inner.index c.keys-in-Inner.ensures.value c.in_ok-index-in-Inner.ensures.in_range c.child_id-child.result c.child_id-child.ensures in (
      omega (arith, one_down total sum slots c.args.height c.args.id c.in-Inner.inner node c.in_ok-index-in-Inner.index c.child_id-child.result there),
      (within.0, (within.1.0, (within.1.1.0, (within.1.1.1.0, (within.1.1.1.1, below total sum slots c.args.height c.args.id c.in-Inner.inner node c.in_ok-index-in-Inner.index c.child_id-child.result there))))),
    )

pub returns-in_ok-first-in-Leaf : goal.returns-in_ok-first-in-Leaf
returns-in_ok-first-in-Leaf g t c =
    found_in_leaf g.met.S.K.Ord.total g.met.G.Ord.total g.G.FromRef.group_of g.met.G.FromRef.keeps_order c.args.group.now (g.S.NodeStore.slots c.args.store.now) g.S.Argument.Argument.is_summary c.args.height c.args.id c.in-Leaf.leaf c.get_leaf.result.now c.requires c.in-Leaf.is c.get_leaf.ensures
    c.keys.result.now c.in_ok-first-in-Leaf.first c.keys.ensures.value c.in_ok-first-in-Leaf.ensures.in_range c.in_ok-first-in-Leaf.ensures.border c.args.i c.skip.result c.skip.ensures

pub returns-in-Found : goal.returns-in-Found
returns-in-Found g t c =
    found_in_child g.met.S.K.Ord.total g.met.G.Ord.total g.G.FromRef.group_of g.met.G.FromRef.keeps_order c.args.group.now (g.S.NodeStore.slots c.args.store.now) g.S.Argument.Argument.is_summary c.args.height c.args.id c.in-Inner.inner c.get_inner-node.result.now c.requires c.in-Inner.is c.get_inner-node.ensures
    c.keys-in-Inner.result.now c.in_ok-index-in-Inner.index c.keys-in-Inner.ensures.value c.in_ok-index-in-Inner.ensures.in_range c.in_ok-index-in-Inner.ensures.border c.child_id-child.result c.child_id-child.ensures c.args.i c.in-Found.at (rw c.in-Found.is at c.in_ok-at-in-Inner.ensures)

pub returns-in-Short : goal.returns-in-Short
returns-in-Short g t c =
    found_behind g.met.S.K.Ord.total g.met.G.Ord.total g.G.FromRef.group_of g.met.G.FromRef.keeps_order c.args.group.now (g.S.NodeStore.slots c.args.store.now) g.S.Argument.Argument.is_summary c.args.height c.args.id c.in-Inner.inner c.get_inner-node.result.now c.requires c.in-Inner.is c.get_inner-node.ensures
    c.keys-in-Inner.result.now c.in_ok-index-in-Inner.index c.keys-in-Inner.ensures.value c.in_ok-index-in-Inner.ensures.in_range c.in_ok-index-in-Inner.ensures.border c.child_id-child.result c.child_id-child.ensures c.args.i c.in-Short.rest c.skip-in-Short.result (rw c.in-Short.is at c.in_ok-at-in-Inner.ensures) c.skip-in-Short.ensures

use Rattle.std.proofs.Common.{arith}
use Rattle.bptree_search.proofs.Child.{below, node_at, one_down}
use Rattle.bptree_ranges.specs.Indexes.{before_entry}
use Rattle.bptree_ranges.proofs.Passing.{leaf_found, leaf_short, child_of, ended, found_first, passed_below, passed_by}
use Rattle.bptree_ranges.proofs.indexes.+skip.Goals as goal
use Rattle.bptree_ranges.proofs.indexes.+skip.Goals.{in-Some, in-None+in-Short}

pub skip-requires : goal.skip-requires
skip-requires g t c κs within =
    let total = g.met.S.K.Ord.total in
    let sum = g.S.Argument.Argument.is_summary in
    let slots = g.S.NodeStore.slots c.args.store.now in
    let at = node_at total sum slots c.args.height c.args.id c.in-Inner.inner c.get_inner-node.result.now c.requires c.in-Inner.is c.get_inner-node.ensures in
    let there = child_of total sum slots c.args.id c.in-Inner.inner c.get_inner-node.result.now c.loop-index.index c.args.height at c.arguments-arguments.result.now c.arguments-arguments.ensures.value c.loop-index-test.true c.child_id.result c.child_id.ensures in (
      omega (arith, one_down total sum slots c.args.height c.args.id c.in-Inner.inner c.get_inner-node.result.now c.loop-index.index c.child_id.result there),
      (within.0, (within.1.0, (within.1.1.0, (within.1.1.1, below total sum slots c.args.height c.args.id c.in-Inner.inner c.get_inner-node.result.now c.loop-index.index c.child_id.result there)))),
    )

pub returns-then-i-len : goal.returns-then-i-len
returns-then-i-len g t c =
    leaf_found g.met.S.K.Ord.total g.S.Argument.Argument.is_summary (g.S.NodeStore.slots c.args.store.now) c.args.id c.in-Leaf.leaf c.get_leaf.result.now c.args.first c.args.i c.len.result c.saturating_sub-len.result c.args.height c.requires c.in-Leaf.is c.get_leaf.ensures c.len.ensures.value c.saturating_sub-len.ensures c.if-i-len.true

pub returns-else-i-len : goal.returns-else-i-len
returns-else-i-len g t c =
    leaf_short g.met.S.K.Ord.total g.S.Argument.Argument.is_summary (g.S.NodeStore.slots c.args.store.now) c.args.id c.in-Leaf.leaf c.get_leaf.result.now c.args.first c.args.i c.len.result c.saturating_sub-len.result c.args.height c.requires c.in-Leaf.is c.get_leaf.ensures c.len.ensures.value c.saturating_sub-len.ensures c.if-i-len.false

pub returns-in-Found : goal.returns-in-Found
returns-in-Found g t c =
    let node = c.get_inner-node.result.now in
    let at = node_at g.met.S.K.Ord.total g.S.Argument.Argument.is_summary (g.S.NodeStore.slots c.args.store.now) c.args.height c.args.id c.in-Inner.inner node c.requires c.in-Inner.is c.get_inner-node.ensures in
    let there = child_of g.met.S.K.Ord.total g.S.Argument.Argument.is_summary (g.S.NodeStore.slots c.args.store.now) c.args.id c.in-Inner.inner node c.loop-index.index c.args.height at c.arguments-arguments.result.now c.arguments-arguments.ensures.value c.loop-index-test.true c.child_id.result c.child_id.ensures in
    found_first g.met.S.K.Ord.total g.S.Argument.Argument.is_summary (g.S.NodeStore.slots c.args.store.now) c.args.id c.in-Inner.inner node c.loop-index.index c.args.height c.child_id.result there c.loop-index.rest (before_entry (g.S.NodeStore.slots c.args.store.now) c.args.height c.args.id c.args.first) c.args.i c.in-Found.at
    c.loop-index.invariant (rw c.in-Found.is at c.skip.ensures)

pub loop-index-preserved : goal.loop-index-preserved
loop-index-preserved g t c =
    let total = g.met.S.K.Ord.total in
    let sum = g.S.Argument.Argument.is_summary in
    let slots = g.S.NodeStore.slots c.args.store.now in
    let from = before_entry slots c.args.height c.args.id c.args.first in
    let at = node_at total sum slots c.args.height c.args.id c.in-Inner.inner c.get_inner-node.result.now c.requires c.in-Inner.is c.get_inner-node.ensures in
    elim c.match-count_within.branch [
      | in-Some w ↦
          rw w.rest-is (passed_by total sum slots c.args.id c.in-Inner.inner c.get_inner-node.result.now c.loop-index.index c.args.height at c.arguments-arguments.result.now c.arguments-arguments.ensures.value c.loop-index-test.true c.index-arguments-index.result c.index-arguments-index.is w.in-Some.count w.in-Some.ensures.reported
          c.loop-index.rest from c.args.i w.in-Some.ensures.within c.loop-index.invariant)
      | in-None+in-Short w ↦
          let there = child_of total sum slots c.args.id c.in-Inner.inner c.get_inner-node.result.now c.loop-index.index c.args.height at c.arguments-arguments.result.now c.arguments-arguments.ensures.value c.loop-index-test.true w.child_id.result w.child_id.ensures in
          rw w.rest-is (passed_below total sum slots c.args.id c.in-Inner.inner c.get_inner-node.result.now c.loop-index.index c.args.height w.child_id.result there c.loop-index.rest w.in-Short.more from c.args.i (rw w.in-Short.is at w.skip.ensures) c.loop-index.invariant)
    ]

pub returns-after-loop-index : goal.returns-after-loop-index
returns-after-loop-index g t c =
    let at = node_at g.met.S.K.Ord.total g.S.Argument.Argument.is_summary (g.S.NodeStore.slots c.args.store.now) c.args.height c.args.id c.in-Inner.inner c.get_inner-node.result.now c.requires c.in-Inner.is c.get_inner-node.ensures in
    ended g.met.S.K.Ord.total g.S.Argument.Argument.is_summary (g.S.NodeStore.slots c.args.store.now) c.args.id c.in-Inner.inner c.get_inner-node.result.now c.args.height at c.arguments-arguments.result.now c.arguments-arguments.ensures.value c.loop-index.index
    (before_entry (g.S.NodeStore.slots c.args.store.now) c.args.height c.args.id c.args.first) c.loop-index.rest c.args.i c.loop-index-test.false c.loop-index.invariant

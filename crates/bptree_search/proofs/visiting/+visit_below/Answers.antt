use Rattle.std.proofs.Common.{ap, arith, length, ◌≤◌}
use Rattle.bptree_search.proofs.Child.{below, border_child, border_within, one_down}
use Rattle.bptree_search.proofs.Visited.{at_leaf, ended, reported, lost, went}
use Rattle.bptree_search.proofs.visiting.+visit_below.Goals as goal

pub returns-in-Ok-Cancel : goal.returns-in-Ok-Cancel
returns-in-Ok-Cancel g t c =
    ended g.met.S.K.Ord.total g.S.Argument.Argument.is_summary (g.S.NodeStore.slots c.args.store.now) g.W.DescendVisit.outcomes (length c.keys-in-Inner.result.now) c.arguments.result.now c.args.visitor c.visit_inner.new.self c.in-Ok-Cancel.field-0 c.in-Ok-Cancel.ensures.step c.args.id c.in-Inner.inner c.get_inner-node.result.now (ap length c.keys-in-Inner.ensures.value) c.arguments.ensures.value
    c.args.height c.requires c.in-Inner.is c.get_inner-node.ensures c.in-Ok-Cancel.field-0-is

pub returns-in-Ok-Complete : goal.returns-in-Ok-Complete
returns-in-Ok-Complete g t c =
    reported g.met.S.K.Ord.total g.S.Argument.Argument.is_summary (g.S.NodeStore.slots c.args.store.now) g.W.DescendVisit.outcomes (length c.keys-in-Inner.result.now) c.arguments.result.now c.args.visitor c.visit_inner.new.self c.in-Ok-Complete.field-0 c.in-Ok-Complete.ensures.step c.args.id c.in-Inner.inner c.get_inner-node.result.now (ap length c.keys-in-Inner.ensures.value) c.arguments.ensures.value c.in-Ok-Complete.outcome c.args.height c.requires c.in-Inner.is c.get_inner-node.ensures c.in-Ok-Complete.field-0-is

pub returns-then-index-len : goal.returns-then-index-len
returns-then-index-len g t c =
    lost g.met.S.K.Ord.total g.S.Argument.Argument.is_summary (g.S.NodeStore.slots c.args.store.now) g.W.DescendVisit.outcomes (length c.keys-in-Inner.result.now) c.arguments.result.now c.args.visitor c.visit_inner.new.self c.in-Ok-GoDown.field-0 c.in-Ok-GoDown.ensures.step c.args.id c.in-Inner.inner c.get_inner-node.result.now (ap length c.keys-in-Inner.ensures.value) c.arguments.ensures.value c.in-Ok-GoDown.index c.args.height c.requires c.in-Inner.is c.get_inner-node.ensures c.in-Ok-GoDown.field-0-is
    (omega (arith, c.len.ensures.value, c.if-index-len.true))

pub child_id-child-requires : goal.child_id-child-requires
child_id-child-requires g t c =
    border_within g.met.S.K.Ord.total g.S.Argument.Argument.is_summary (g.S.NodeStore.slots c.args.store.now) c.args.height c.args.id c.in-Inner.inner c.get_inner-node.result.now c.requires c.in-Inner.is c.get_inner-node.ensures c.keys-in-Inner.result.now c.in-Ok-GoDown.index c.keys-in-Inner.ensures.value
    (omega (arith, ap length c.keys-in-Inner.ensures.value, c.len.ensures.value, c.if-index-len.false))

pub visit_below-requires : goal.visit_below-requires
visit_below-requires g t c κs within =
    let total = g.met.S.K.Ord.total in
    let sum = g.S.Argument.Argument.is_summary in
    let slots = g.S.NodeStore.slots c.args.store.now in
    let few : c.in-Ok-GoDown.index ≤ length c.keys-in-Inner.result.now = omega (arith, ap length c.keys-in-Inner.ensures.value, c.len.ensures.value, c.if-index-len.false) in
    let there = border_child total sum slots c.args.height c.args.id c.in-Inner.inner c.get_inner-node.result.now c.requires c.in-Inner.is c.get_inner-node.ensures c.keys-in-Inner.result.now c.in-Ok-GoDown.index c.keys-in-Inner.ensures.value few c.child_id-child.result c.child_id-child.ensures in (
      omega (arith, c.decreases, one_down total sum slots c.args.height c.args.id c.in-Inner.inner c.get_inner-node.result.now c.in-Ok-GoDown.index c.child_id-child.result there),
      (within.0, (within.1.0, (within.1.1.0, (within.1.1.1.0, (within.1.1.1.1.0, (within.1.1.1.1.1, below total sum slots c.args.height c.args.id c.in-Inner.inner c.get_inner-node.result.now c.in-Ok-GoDown.index c.child_id-child.result there)))))),
    )

pub returns : goal.returns
returns g t c =
    went g.met.S.K.Ord.total g.S.Argument.Argument.is_summary (g.S.NodeStore.slots c.args.store.now) g.W.DescendVisit.outcomes (length c.keys-in-Inner.result.now) c.arguments.result.now c.args.visitor c.visit_inner.new.self c.in-Ok-GoDown.field-0 c.in-Ok-GoDown.ensures.step c.args.id c.in-Inner.inner c.get_inner-node.result.now (ap length c.keys-in-Inner.ensures.value) c.arguments.ensures.value c.in-Ok-GoDown.index c.child_id-child.result c.args.height c.requires c.in-Inner.is c.get_inner-node.ensures c.in-Ok-GoDown.field-0-is
    (omega (arith, c.len.ensures.value, c.if-index-len.false)) c.child_id-child.ensures c.visit_below.result c.visit_below.ensures

pub returns-in-Leaf : goal.returns-in-Leaf
returns-in-Leaf g t c =
    at_leaf g.met.S.K.Ord.total g.S.Argument.Argument.is_summary (g.S.NodeStore.slots c.args.store.now) g.W.DescendVisit.outcomes c.args.visitor c.keys.result.now c.values.result.now c.in-Ok.outcome c.in-Ok.ensures.outcome c.args.height c.args.id c.in-Leaf.leaf c.get_leaf-node.result.now c.requires c.in-Leaf.is c.get_leaf-node.ensures
    c.keys.ensures.value c.values.ensures.value

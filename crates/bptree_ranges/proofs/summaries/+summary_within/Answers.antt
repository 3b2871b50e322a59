use Rattle.std.proofs.Common.{arith, refl, Some, ◌+◌}
use Rattle.bptree_search.proofs.Child.{child_at, below, one_down, tree_below}
use Rattle.bptree_ranges.proofs.Sums.{leaf_node, within_node, one_node}
use Rattle.bptree_ranges.proofs.summaries.+summary_within.Goals as goal

pub summary_within-requires : goal.summary_within-requires
summary_within-requires g t c κs within =
    let slots = g.S.NodeStore.slots c.args.store.now in
    let at = c.locate_child-from in
    let there = child_at g.met.S.K.Ord.total g.S.Argument.Argument.is_summary slots c.args.height c.args.id c.in-Inner.inner c.get_inner-node.result.now c.requires.subtree c.in-Inner.is c.get_inner-node.ensures at.result.0 at.result.1 at.ensures.in_range at.ensures.child in (
      omega (arith, one_down g.met.S.K.Ord.total g.S.Argument.Argument.is_summary slots c.args.height c.args.id c.in-Inner.inner c.get_inner-node.result.now at.result.0 at.result.1 there),
      (within.0, (within.1.0, (within.1.1.0, (within.1.1.1, (below g.met.S.K.Ord.total g.S.Argument.Argument.is_summary slots c.args.height c.args.id c.in-Inner.inner c.get_inner-node.result.now at.result.0 at.result.1 there, c.requires.apart))))),
    )

pub returns-in-Leaf : goal.returns-in-Leaf
returns-in-Leaf g t c =
    leaf_node g.met.S.K.Ord.total g.S.Argument.Argument.is_summary (g.S.NodeStore.slots c.args.store.now) c.args.height c.args.id c.in-Leaf.leaf c.get_leaf.result.now c.requires.subtree c.in-Leaf.is c.get_leaf.ensures (Some c.args.lo.now) (Some c.args.hi.now) c.summary_in_leaf.result c.summary_in_leaf.ensures

pub returns-then-from-to : goal.returns-then-from-to
returns-then-from-to g t c =
    let at = c.locate_child-from in
    let node = c.get_inner-node.result.now in
    let there = child_at g.met.S.K.Ord.total g.S.Argument.Argument.is_summary (g.S.NodeStore.slots c.args.store.now) c.args.height c.args.id c.in-Inner.inner node c.requires.subtree c.in-Inner.is c.get_inner-node.ensures at.result.0 at.result.1 at.ensures.in_range at.ensures.child in
    one_node g.met.S.K.Ord.total g.S.Argument.Argument.is_summary (g.S.NodeStore.slots c.args.store.now) c.args.id c.in-Inner.inner node node.arguments refl c.args.lo.now c.args.hi.now at.result.0 c.locate_child-to.result.0 at.result.1 c.locate_child-to.result.1 c.args.height
    there at.ensures.leads c.locate_child-to.ensures.leads c.if-from-to.true c.summary_within.result c.summary_within.ensures

pub summary_beside-requires : goal.summary_beside-requires
summary_beside-requires g t c =
    let at = c.locate_child-from in
    tree_below g.met.S.K.Ord.total g.S.Argument.Argument.is_summary (g.S.NodeStore.slots c.args.store.now) c.args.height c.args.id c.in-Inner.inner c.get_inner-node.result.now c.requires.subtree c.in-Inner.is c.get_inner-node.ensures at.result.0 at.result.1 at.ensures.in_range at.ensures.child

pub summary_beside-requires-in-Inner : goal.summary_beside-requires-in-Inner
summary_beside-requires-in-Inner g t c =
    let at = c.locate_child-to in
    tree_below g.met.S.K.Ord.total g.S.Argument.Argument.is_summary (g.S.NodeStore.slots c.args.store.now) c.args.height c.args.id c.in-Inner.inner c.get_inner-node.result.now c.requires.subtree c.in-Inner.is c.get_inner-node.ensures at.result.0 at.result.1 at.ensures.in_range at.ensures.child

pub returns-in_ok-rest-in-Inner : goal.returns-in_ok-rest-in-Inner
returns-in_ok-rest-in-Inner g t c =
    let total = g.met.S.K.Ord.total in
    let sum = g.S.Argument.Argument.is_summary in
    let slots = g.S.NodeStore.slots c.args.store.now in
    let node = c.get_inner-node.result.now in
    let one = c.locate_child-from in
    let there = child_at total sum slots c.args.height c.args.id c.in-Inner.inner node c.requires.subtree c.in-Inner.is c.get_inner-node.ensures one.result.0 one.result.1 one.ensures.in_range one.ensures.child in
    let other = c.locate_child-to in
    let there' = child_at total sum slots c.args.height c.args.id c.in-Inner.inner node c.requires.subtree c.in-Inner.is c.get_inner-node.ensures other.result.0 other.result.1 other.ensures.in_range other.ensures.child in
    within_node total sum slots c.args.id c.in-Inner.inner node c.arguments.result.now c.arguments.ensures.value c.args.lo.now c.args.hi.now one.result.0 other.result.0 one.result.1 other.result.1 c.args.height there there' one.ensures.leads other.ensures.leads c.requires.apart c.if-from-to.false (one.result.0 + 1) refl
    c.in_ok-front-in-Inner.front c.in_ok-middle-in-Inner.middle c.in_ok-back-in-Inner.back c.in_ok-rest-in-Inner.rest c.sum_of_both-in-Inner.result
    c.in_ok-front-in-Inner.ensures c.in_ok-middle-in-Inner.ensures c.in_ok-back-in-Inner.ensures c.in_ok-rest-in-Inner.ensures c.sum_of_both-in-Inner.ensures

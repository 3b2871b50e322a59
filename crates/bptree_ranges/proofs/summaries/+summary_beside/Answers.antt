use Rattle.std.proofs.Common.{refl, length, None, Some, ◌+◌, arith}
use Rattle.bptree_search.proofs.Child.{child_at, below, one_down}
use Rattle.bptree_ranges.proofs.Sums.{from_node, upto_node, leaf_node}
use Rattle.bptree_ranges.proofs.summaries.+summary_beside.Goals as goal

pub summary_beside-requires : goal.summary_beside-requires
summary_beside-requires g t c κs within =
    let total = g.met.S.K.Ord.total in
    let sum = g.S.Argument.Argument.is_summary in
    let slots = g.S.NodeStore.slots c.args.store.now in
    let i = c.locate_child-index.result.0 in
    let child = c.locate_child-index.result.1 in
    let there = child_at total sum slots c.args.height c.args.id c.in-Inner.inner c.get_inner-node.result.now c.requires c.in-Inner.is c.get_inner-node.ensures i child c.locate_child-index.ensures.in_range c.locate_child-index.ensures.child in
    (omega (arith, one_down total sum slots c.args.height c.args.id c.in-Inner.inner c.get_inner-node.result.now i child there), (within.0, (within.1.0, (within.1.1.0, (within.1.1.1, below total sum slots c.args.height c.args.id c.in-Inner.inner c.get_inner-node.result.now i child there)))))

pub returns-in-Before : goal.returns-in-Before
returns-in-Before g t c =
    rw c.in-Before.is
    (leaf_node g.met.S.K.Ord.total g.S.Argument.Argument.is_summary (g.S.NodeStore.slots c.args.store.now) c.args.height c.args.id c.in-Leaf.leaf c.get_leaf-node.result.now c.requires c.in-Leaf.is c.get_leaf-node.ensures None (Some c.args.key.now) c.summary_in_leaf.result c.summary_in_leaf.ensures)

pub returns-in-After : goal.returns-in-After
returns-in-After g t c =
    rw c.in-After.is
    (leaf_node g.met.S.K.Ord.total g.S.Argument.Argument.is_summary (g.S.NodeStore.slots c.args.store.now) c.args.height c.args.id c.in-Leaf.leaf c.get_leaf-node.result.now c.requires c.in-Leaf.is c.get_leaf-node.ensures (Some c.args.key.now) None c.summary_in_leaf-in-After.result c.summary_in_leaf-in-After.ensures)

pub returns-in_ok-front-in-Before-side : goal.returns-in_ok-front-in-Before-side
returns-in_ok-front-in-Before-side g t c =
    let at = c.locate_child-index in
    let there = child_at g.met.S.K.Ord.total g.S.Argument.Argument.is_summary (g.S.NodeStore.slots c.args.store.now) c.args.height c.args.id c.in-Inner.inner c.get_inner-node.result.now c.requires c.in-Inner.is c.get_inner-node.ensures at.result.0 at.result.1 at.ensures.in_range at.ensures.child in
    rw c.in-Before-side.is
    (upto_node g.met.S.K.Ord.total g.S.Argument.Argument.is_summary (g.S.NodeStore.slots c.args.store.now) c.args.id c.in-Inner.inner c.get_inner-node.result.now c.arguments-arguments.result.now c.arguments-arguments.ensures.value c.args.height c.args.key.now at.result.0 at.result.1 there at.ensures.leads
    c.in_ok-front-in-Before-side.front c.in_ok-part-in-Inner.part c.sum_of_both.result c.in_ok-front-in-Before-side.ensures (rw c.in-Before-side.is at c.in_ok-part-in-Inner.ensures) c.sum_of_both.ensures)

pub returns-in_ok-back-in-After-side : goal.returns-in_ok-back-in-After-side
returns-in_ok-back-in-After-side g t c =
    let at = c.locate_child-index in
    let arguments = c.arguments-arguments.result.now in
    let there = child_at g.met.S.K.Ord.total g.S.Argument.Argument.is_summary (g.S.NodeStore.slots c.args.store.now) c.args.height c.args.id c.in-Inner.inner c.get_inner-node.result.now c.requires c.in-Inner.is c.get_inner-node.ensures at.result.0 at.result.1 at.ensures.in_range at.ensures.child in
    rw c.in-After-side.is
    (from_node g.met.S.K.Ord.total g.S.Argument.Argument.is_summary (g.S.NodeStore.slots c.args.store.now) c.args.id c.in-Inner.inner c.get_inner-node.result.now arguments c.arguments-arguments.ensures.value c.args.height c.args.key.now at.result.0 (at.result.0 + 1) (length arguments) at.result.1 there at.ensures.leads refl refl
    c.in_ok-part-in-Inner.part c.in_ok-back-in-After-side.back c.sum_of_both-in-After-side.result (rw c.in-After-side.is at c.in_ok-part-in-Inner.ensures) c.in_ok-back-in-After-side.ensures c.sum_of_both-in-After-side.ensures)

use Rattle.std.proofs.Common.{refl, length, None}
use Rattle.bptree_search.proofs.Child.{node_at}
use Rattle.bptree_ranges.proofs.Sums.{all_node, leaf_node}
use Rattle.bptree_ranges.proofs.summaries.summary_of_all.Goals as goal

pub returns-in-Leaf : goal.returns-in-Leaf
returns-in-Leaf g c =
    leaf_node g.met.S.K.Ord.total g.S.Argument.Argument.is_summary (g.S.NodeStore.slots c.args.store.now) c.args.height c.args.id c.in-Leaf.leaf c.get_leaf.result.now c.requires c.in-Leaf.is c.get_leaf.ensures None None c.summary_in_leaf.result c.summary_in_leaf.ensures

pub returns-in-Inner : goal.returns-in-Inner
returns-in-Inner g c =
    let arguments = c.arguments-arguments.result.now in
    all_node g.met.S.K.Ord.total g.S.Argument.Argument.is_summary (g.S.NodeStore.slots c.args.store.now) c.args.id c.in-Inner.inner c.get_inner.result.now arguments c.arguments-arguments.ensures.value c.args.height
    (node_at g.met.S.K.Ord.total g.S.Argument.Argument.is_summary (g.S.NodeStore.slots c.args.store.now) c.args.height c.args.id c.in-Inner.inner c.get_inner.result.now c.requires c.in-Inner.is c.get_inner.ensures) (length arguments) refl c.sum_of_some.result c.sum_of_some.ensures

use Rattle.std.proofs.Common.{arith}
use Rattle.bptree_arguments.specs.CountLaws.{CountsKeys}
use Rattle.bptree_arguments.specs.declared.count.Count.{Count}
use Rattle.bptree_search.proofs.Child.{child_at, below, one_down}
use Rattle.bptree_ranges.proofs.Counts.{leaf_counted}
use Rattle.bptree_ranges.proofs.Sums.{counted_node}
use Rattle.bptree_ranges.proofs.counting.+count_smaller.Goals as goal

pub count_smaller-smaller-requires : goal.count_smaller-smaller-requires
count_smaller-smaller-requires g t c κs within =
    let at = c.locate_child-index in
    let there = child_at g.met.S.K.Ord.total CountsKeys (g.S.NodeStore.slots c.args.store.now) c.args.height c.args.id c.in-Inner.inner c.get_inner-node.result.now c.requires c.in-Inner.is c.get_inner-node.ensures at.result.0 at.result.1 at.ensures.in_range at.ensures.child in (
      omega (arith, one_down g.met.S.K.Ord.total CountsKeys (g.S.NodeStore.slots c.args.store.now) c.args.height c.args.id c.in-Inner.inner c.get_inner-node.result.now at.result.0 at.result.1 there),
      (within.0, (within.1.0, (within.1.1, below g.met.S.K.Ord.total CountsKeys (g.S.NodeStore.slots c.args.store.now) c.args.height c.args.id c.in-Inner.inner c.get_inner-node.result.now at.result.0 at.result.1 there))),
    )

pub returns-in-Leaf : goal.returns-in-Leaf
returns-in-Leaf g t c =
    leaf_counted g.met.S.K.Ord.total CountsKeys (g.S.NodeStore.slots c.args.store.now) c.args.height c.args.id c.in-Leaf.leaf c.get_leaf.result.now c.requires c.in-Leaf.is c.get_leaf.ensures c.args.key.now c.slot_of.result c.slot_of.ensures.smaller

pub returns-in-Inner : goal.returns-in-Inner
returns-in-Inner g t c =
    let at = c.locate_child-index in
    let smaller = c.count_smaller-smaller in
    let there = child_at g.met.S.K.Ord.total CountsKeys (g.S.NodeStore.slots c.args.store.now) c.args.height c.args.id c.in-Inner.inner c.get_inner-node.result.now c.requires c.in-Inner.is c.get_inner-node.ensures at.result.0 at.result.1 at.ensures.in_range at.ensures.child in
    counted_node g.met.S.K.Ord.total CountsKeys (g.S.NodeStore.slots c.args.store.now) c.args.id c.in-Inner.inner c.get_inner-node.result.now c.arguments.result.now c.arguments.ensures.value c.args.height (λ (b : Count). b.0) (λ a keys same. same) c.args.key.now at.result.0 at.result.1 there at.ensures.leads smaller.result c.total_of.result smaller.ensures c.total_of.ensures

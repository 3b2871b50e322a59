use Rattle.std.proofs.Common.{arith, ◌-◌}
use Rattle.std.proofs.lemmas.Result.{IfOk-weaker}
use Rattle.bptree_keys.specs.declared.node_id.NodeId.TheVariants.{Inner}
use Rattle.bptree_invariant.specs.Leaves.{IsStored, IsBorderLeaf}
use Rattle.bptree_keys.specs.Ends.{is_back}
use Rattle.bptree_ranges.proofs.Bordered.{border_cut, border_leaf, border_node, key_falls, is_key_before}
use Rattle.bptree_invariant.proofs.Down.{inner_present, node_children, node_keys, child_is_stored}
use Rattle.bptree_ranges.proofs.groups.+leaf_of_group.Goals as goal

pub child_id-child-requires : goal.child_id-child-requires
child_id-child-requires g t c =
    let total = g.met.S.K.Ord.total in
    let slots = g.S.NodeStore.slots c.args.store.now in
    let s : IsStored g.S.K.Ord.cmp slots c.args.height (Inner c.in-Inner.inner) = rw c.in-Inner.is at c.requires in
    let few = rw c.keys.ensures.value at c.in_ok-index-in-Inner.ensures.in_range in
    omega (arith, few, node_children total slots c.args.height c.in-Inner.inner c.get_inner-node.result.now s c.get_inner-node.ensures)

pub leaf_of_group-requires : goal.leaf_of_group-requires
leaf_of_group-requires g t c κs within =
    let total = g.met.S.K.Ord.total in
    let slots = g.S.NodeStore.slots c.args.store.now in
    let s : IsStored g.S.K.Ord.cmp slots c.args.height (Inner c.in-Inner.inner) = rw c.in-Inner.is at c.requires in
    let few = rw c.keys.ensures.value at c.in_ok-index-in-Inner.ensures.in_range in
    let long = node_children total slots c.args.height c.in-Inner.inner c.get_inner-node.result.now s c.get_inner-node.ensures in (
      (let p = (inner_present total slots c.args.height c.in-Inner.inner s).1 in omega arith),
      (within.0, (within.1.0, (within.1.1.0, (within.1.1.1.0, (within.1.1.1.1, child_is_stored total slots c.args.height c.in-Inner.inner c.get_inner-node.result.now s c.get_inner-node.ensures c.in_ok-index-in-Inner.index c.child_id-child.result (omega (arith, few, long)) c.child_id-child.ensures))))),
    )

pub returns-in-Leaf : goal.returns-in-Leaf
returns-in-Leaf g t c =
    let total = g.met.S.K.Ord.total in
    let slots = g.S.NodeStore.slots c.args.store.now in
    let test = is_key_before total g.met.G.Ord.total g.G.FromRef.group_of g.met.G.FromRef.keeps_order c.args.group.now (is_back c.args.end) in
    let falls = key_falls total g.met.G.Ord.total g.G.FromRef.group_of g.met.G.FromRef.keeps_order c.args.group.now (is_back c.args.end) in
    rw c.in-Leaf.is (border_leaf total test falls slots c.args.height c.in-Leaf.leaf (rw c.in-Leaf.is at c.requires))

pub returns-in_ok-index-in-Inner : goal.returns-in_ok-index-in-Inner
returns-in_ok-index-in-Inner g t c =
    let total = g.met.S.K.Ord.total in
    let slots = g.S.NodeStore.slots c.args.store.now in
    let node = c.get_inner-node.result.now in
    let s : IsStored g.S.K.Ord.cmp slots c.args.height (Inner c.in-Inner.inner) = rw c.in-Inner.is at c.requires in
    let test = is_key_before total g.met.G.Ord.total g.G.FromRef.group_of g.met.G.FromRef.keeps_order c.args.group.now (is_back c.args.end) in
    let falls = key_falls total g.met.G.Ord.total g.G.FromRef.group_of g.met.G.FromRef.keeps_order c.args.group.now (is_back c.args.end) in
    let index = c.in_ok-index-in-Inner.index in
    let sorted = node_keys total slots c.args.height c.in-Inner.inner node s c.get_inner-node.ensures in
    let parts = border_cut total g.met.G.Ord.total g.G.FromRef.group_of g.met.G.FromRef.keeps_order c.args.group.now (is_back c.args.end) node.keys c.keys.result.now index c.keys.ensures.value sorted c.in_ok-index-in-Inner.ensures.in_range c.in_ok-index-in-Inner.ensures.border in
    rw c.in-Inner.is
    (IfOk-weaker c.leaf_of_group.result (IsBorderLeaf slots test (c.args.height - 1) c.child_id-child.result) (IsBorderLeaf slots test c.args.height (Inner c.in-Inner.inner))
    (border_node total test falls slots c.args.height c.in-Inner.inner node index c.child_id-child.result s c.get_inner-node.ensures parts c.child_id-child.ensures)
    c.leaf_of_group.ensures)

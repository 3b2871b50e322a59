use Rattle.std.proofs.Common.{arith}
use Rattle.bptree_invariant.specs.Leaves.{IsStored}
use Rattle.bptree_keys.specs.declared.node_id.NodeId.TheVariants.{Inner}
use Rattle.bptree_invariant.proofs.Down.{inner_present, node_leads, child_is_stored, leaf_for_node, leaf_for_leaf}
use Rattle.bptree_invariant.proofs.descent.+find_leaf.Goals as goal

pub find_leaf-requires : goal.find_leaf-requires
find_leaf-requires g t c κs within =
    let total = g.met.S.K.Ord.total in
    let slots = g.S.NodeStore.slots c.args.store.now in
    let s : IsStored g.S.K.Ord.cmp slots c.args.height (Inner c.in-Inner.inner) = rw c.in-Inner.is at c.requires in
    let at = c.locate_child_counted-child.ensures in (
      (let p = (inner_present total slots c.args.height c.in-Inner.inner s).1 in omega arith),
      (within.0, (within.1.0, (within.1.1.0, (within.1.1.1, child_is_stored total slots c.args.height c.in-Inner.inner c.get_inner.result.now s c.get_inner.ensures c.locate_child_counted-child.result.0 c.locate_child_counted-child.result.1 at.in_range at.child)))),
    )

pub returns-in-Leaf-clause-leaf : goal.returns-in-Leaf-clause-leaf
returns-in-Leaf-clause-leaf g t c =
    rw c.in-Leaf.is (leaf_for_leaf g.met.S.K.Ord.total (g.S.NodeStore.slots c.args.store.now) c.args.height c.in-Leaf.leaf c.args.key.now (rw c.in-Leaf.is at c.requires))

pub returns-in-Inner-clause-leaf : goal.returns-in-Inner-clause-leaf
returns-in-Inner-clause-leaf g t c =
    let total = g.met.S.K.Ord.total in
    let slots = g.S.NodeStore.slots c.args.store.now in
    let node = c.get_inner.result.now in
    let s : IsStored g.S.K.Ord.cmp slots c.args.height (Inner c.in-Inner.inner) = rw c.in-Inner.is at c.requires in
    let at = c.locate_child_counted-child.ensures in
    let leads = node_leads total slots c.args.height c.in-Inner.inner node s c.get_inner.ensures c.args.key.now c.locate_child_counted-child.result.0 at.leads in
    rw c.in-Inner.is
    (leaf_for_node total slots c.args.height c.in-Inner.inner node c.args.key.now c.locate_child_counted-child.result.0 c.locate_child_counted-child.result.1 c.find_leaf.result s c.get_inner.ensures
    leads at.in_range at.child c.find_leaf.ensures.leaf)

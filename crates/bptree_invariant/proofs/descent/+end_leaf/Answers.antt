use Rattle.std.proofs.Common.{arith}
use Rattle.bptree_keys.specs.Ends.{is_back}
use Rattle.bptree_invariant.proofs.EndSteps.{end_down, end_inside, end_lower, end_up}
use Rattle.bptree_invariant.proofs.Ends.{end_of_leaf}
use Rattle.bptree_invariant.proofs.descent.+end_leaf.Goals as goal

pub child_id-child-requires : goal.child_id-child-requires
child_id-child-requires g t c =
    end_inside g.met.S.K.Ord.total (g.S.NodeStore.slots c.args.store.now) (is_back c.args.end) c.args.height c.args.id c.in-Inner.inner c.get_inner-node.result.now c.requires c.in-Inner.is c.get_inner-node.ensures c.len.result c.end_index.result c.len.ensures.value c.end_index.ensures

pub end_leaf-requires : goal.end_leaf-requires
end_leaf-requires g t c κs within =
    let lower = end_lower g.met.S.K.Ord.total (g.S.NodeStore.slots c.args.store.now) (is_back c.args.end) c.args.height c.args.id c.in-Inner.inner c.get_inner-node.result.now c.requires c.in-Inner.is c.get_inner-node.ensures c.len.result c.end_index.result c.len.ensures.value c.end_index.ensures in
    let down = end_down g.met.S.K.Ord.total (g.S.NodeStore.slots c.args.store.now) (is_back c.args.end) c.args.height c.args.id c.in-Inner.inner c.get_inner-node.result.now c.requires c.in-Inner.is c.get_inner-node.ensures c.len.result c.end_index.result c.len.ensures.value c.end_index.ensures c.child_id-child.result c.child_id-child.ensures in
    (omega (arith, lower), (within.0, (within.1.0, (within.1.1.0, (within.1.1.1, down)))))

pub returns-in-Leaf : goal.returns-in-Leaf
returns-in-Leaf g t c =
    rw c.in-Leaf.is (end_of_leaf g.S.K.Ord.cmp (g.S.NodeStore.slots c.args.store.now) (is_back c.args.end) c.args.height c.in-Leaf.leaf (rw c.in-Leaf.is at c.requires))

pub returns-in-Inner : goal.returns-in-Inner
returns-in-Inner g t c =
    end_up g.met.S.K.Ord.total (g.S.NodeStore.slots c.args.store.now) (is_back c.args.end) c.args.height c.args.id c.in-Inner.inner c.get_inner-node.result.now c.requires c.in-Inner.is c.get_inner-node.ensures c.len.result c.end_index.result c.len.ensures.value c.end_index.ensures c.child_id-child.result c.end_leaf.result c.child_id-child.ensures c.end_leaf.ensures

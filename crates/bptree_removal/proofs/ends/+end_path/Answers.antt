use Rattle.std.proofs.Common.{◌∷◌, [], ◌-◌, ap, arith, length, length-append}
use Rattle.bptree_keys.specs.declared.node_id.NodeId.TheVariants.{Inner, Leaf}
use Rattle.bptree_keys.specs.Ends.{is_back}
use Rattle.bptree_invariant.proofs.EndSteps.{end_inside, end_lower, end_up}
use Rattle.bptree_invariant.proofs.Ends.{end_of_leaf, end_is_leaf_of}
use Rattle.bptree_search.proofs.Selected.{goes_here}
use Rattle.bptree_search.proofs.Summed.{child_subtree}
use Rattle.bptree_search.specs.ByArgument.{IsSubtree}
use Rattle.bptree_removal.proofs.EndPaths.{leads_on}
use Rattle.bptree_removal.proofs.ends.+end_path.Goals as goal

pub child_id-child-requires : goal.child_id-child-requires
child_id-child-requires g t c =
    end_inside g.met.S.K.Ord.total (g.S.NodeStore.slots c.args.store.now) (is_back c.args.end) c.args.height c.args.id c.in-Inner.inner c.get_inner-node.result.now c.requires.subtree.stored c.in-Inner.is c.get_inner-node.ensures c.len.result c.end_index-index.result c.len.ensures.value c.end_index-index.ensures

pub end_path-requires : goal.end_path-requires
end_path-requires g t c κs within =
    let total = g.met.S.K.Ord.total in
    let sum = g.S.Argument.Argument.is_summary in
    let slots = g.S.NodeStore.slots c.args.store.now in
    let s : IsSubtree g.S.K.Ord.cmp sum slots c.args.height (Inner c.in-Inner.inner) = rw c.in-Inner.is at c.requires.subtree in
    let inside = end_inside g.met.S.K.Ord.total (g.S.NodeStore.slots c.args.store.now) (is_back c.args.end) c.args.height c.args.id c.in-Inner.inner c.get_inner-node.result.now c.requires.subtree.stored c.in-Inner.is c.get_inner-node.ensures c.len.result c.end_index-index.result c.len.ensures.value c.end_index-index.ensures in
    let lower = end_lower g.met.S.K.Ord.total (g.S.NodeStore.slots c.args.store.now) (is_back c.args.end) c.args.height c.args.id c.in-Inner.inner c.get_inner-node.result.now c.requires.subtree.stored c.in-Inner.is c.get_inner-node.ensures c.len.result c.end_index-index.result c.len.ensures.value c.end_index-index.ensures in
    let subtree = child_subtree total sum slots c.args.height c.in-Inner.inner c.get_inner-node.result.now s c.get_inner-node.ensures c.end_index-index.result c.child_id-child.result inside c.child_id-child.ensures in
    (omega (arith, lower), (within.0, (within.1.0, (within.1.1.0, (within.1.1.1, (subtree, omega (arith, lower, ap length c.push.ensures, length-append c.args.path.now ((c.in-Inner.inner, c.end_index-index.result, c.child_id-child.result) ∷ []), c.requires.room)))))))

pub returns-in-Leaf-clause-leaf : goal.returns-in-Leaf-clause-leaf
returns-in-Leaf-clause-leaf g t c =
    let s : IsSubtree g.S.K.Ord.cmp g.S.Argument.Argument.is_summary (g.S.NodeStore.slots c.args.store.now) c.args.height (Leaf c.in-Leaf.leaf) = rw c.in-Leaf.is at c.requires.subtree in
    rw c.in-Leaf.is (end_of_leaf g.S.K.Ord.cmp (g.S.NodeStore.slots c.args.store.now) (is_back c.args.end) c.args.height c.in-Leaf.leaf s.stored)

pub returns-in-Leaf-clause-way : goal.returns-in-Leaf-clause-way
returns-in-Leaf-clause-way g t c =
    let sum = g.S.Argument.Argument.is_summary in
    let slots = g.S.NodeStore.slots c.args.store.now in
    let s : IsSubtree g.S.K.Ord.cmp sum slots c.args.height (Leaf c.in-Leaf.leaf) = rw c.in-Leaf.is at c.requires.subtree in
    rw c.in-Leaf.is (λ slot. goes_here g.met.S.K.Ord.total sum slots c.args.height c.in-Leaf.leaf s slot c.args.path.now)

pub returns-in-Inner-clause-leaf : goal.returns-in-Inner-clause-leaf
returns-in-Inner-clause-leaf g t c =
    end_up g.met.S.K.Ord.total (g.S.NodeStore.slots c.args.store.now) (is_back c.args.end) c.args.height c.args.id c.in-Inner.inner c.get_inner-node.result.now c.requires.subtree.stored c.in-Inner.is c.get_inner-node.ensures c.len.result c.end_index-index.result c.len.ensures.value c.end_index-index.ensures c.child_id-child.result c.end_path.result c.child_id-child.ensures c.end_path.ensures.leaf

pub returns-in-Inner-clause-way : goal.returns-in-Inner-clause-way
returns-in-Inner-clause-way g t c =
    let sum = g.S.Argument.Argument.is_summary in
    let slots = g.S.NodeStore.slots c.args.store.now in
    let s : IsSubtree g.S.K.Ord.cmp sum slots c.args.height (Inner c.in-Inner.inner) = rw c.in-Inner.is at c.requires.subtree in
    let stored = end_is_leaf_of g.S.K.Ord.cmp slots (is_back c.args.end) (c.args.height - 1) c.child_id-child.result c.end_path.result c.end_path.ensures.leaf in
    rw c.in-Inner.is (leads_on g.met.S.K.Ord.total sum slots c.args.height c.in-Inner.inner c.get_inner-node.result.now s c.get_inner-node.ensures c.end_index-index.result c.child_id-child.result c.child_id-child.ensures c.args.path.now c.end_path.new.path c.end_path.result stored (rw c.push.ensures at c.end_path.ensures.way))

use Rattle.std.proofs.Common.{refl, ℕ, arith, ◌-◌, ◌∷◌, ◌++◌, []}
use Rattle.bptree_keys.specs.declared.node_id.InnerNodeId.{InnerNodeId}
use Rattle.bptree_keys.specs.declared.node_id.NodeId.{NodeId}
use Rattle.bptree_keys.specs.declared.node_id.NodeId.TheVariants.{Inner}
use Rattle.bptree_search.specs.ByArgument.{IsSubtree, IsSelectedAt, GoesOn}
use Rattle.bptree_search.proofs.Child.{below, one_down}
use Rattle.bptree_search.proofs.Queried.{found_below, nowhere, query_child, query_within}
use Rattle.bptree_search.proofs.Selected.{ok_both, ends_here, goes_on, room_left}
use Rattle.bptree_search.proofs.by_argument.+find_path_below.Goals as goal

pub child_id-child-requires : goal.child_id-child-requires
child_id-child-requires g t c =
    query_within g.met.S.K.Ord.total g.S.Argument.Argument.is_summary (g.S.NodeStore.slots c.args.store.now) g.S.Argument.SearchArgument.selects c.args.query c.args.id c.in-Inner.inner c.get_inner-node.result.now c.get_inner-node.result.now.arguments c.in_ok-lead_on-in-Inner.field-0 c.in-Some.offset c.in-Some.next
    c.args.height c.requires.subtree c.in-Inner.is c.get_inner-node.ensures refl c.in_ok-lead_on-in-Inner.ensures.leads c.in-Some.is

pub find_path_below-requires : goal.find_path_below-requires
find_path_below-requires g t c κs within =
    let total = g.met.S.K.Ord.total in
    let sum = g.S.Argument.Argument.is_summary in
    let slots = g.S.NodeStore.slots c.args.store.now in
    let there = query_child total sum slots g.S.Argument.SearchArgument.selects c.args.query c.args.id c.in-Inner.inner c.get_inner-node.result.now c.get_inner-node.result.now.arguments c.in_ok-lead_on-in-Inner.field-0 c.in-Some.offset c.in-Some.next c.args.height c.requires.subtree c.in-Inner.is c.get_inner-node.ensures refl c.in_ok-lead_on-in-Inner.ensures.leads c.in-Some.is c.child_id-child.result c.child_id-child.ensures in
    (omega (arith, one_down total sum slots c.args.height c.args.id c.in-Inner.inner c.get_inner-node.result.now c.in-Some.offset c.child_id-child.result there), (within.0, (within.1.0, (within.1.1.0, (within.1.1.1.0, (within.1.1.1.1, (below total sum slots c.args.height c.args.id c.in-Inner.inner c.get_inner-node.result.now c.in-Some.offset c.child_id-child.result there, room_left c.args.path.now c.push.new.self (c.in-Inner.inner, c.in-Some.offset, c.child_id-child.result) c.args.height c.push.ensures c.requires.room (one_down total sum slots c.args.height c.args.id c.in-Inner.inner c.get_inner-node.result.now c.in-Some.offset c.child_id-child.result there))))))))

pub returns-in-None-clause-selected : goal.returns-in-None-clause-selected
returns-in-None-clause-selected g t c =
    nowhere g.met.S.K.Ord.total g.S.Argument.Argument.is_summary (g.S.NodeStore.slots c.args.store.now) g.S.Argument.SearchArgument.selects c.args.query c.args.id c.in-Inner.inner c.get_inner-node.result.now c.get_inner-node.result.now.arguments c.in_ok-lead_on-in-Inner.field-0 c.args.height c.requires.subtree c.in-Inner.is c.get_inner-node.ensures refl c.in_ok-lead_on-in-Inner.ensures.leads c.in-None.is

pub returns-in-Some-clause-selected : goal.returns-in-Some-clause-selected
returns-in-Some-clause-selected g t c =
    found_below g.met.S.K.Ord.total g.S.Argument.Argument.is_summary (g.S.NodeStore.slots c.args.store.now) g.S.Argument.SearchArgument.selects c.args.query c.args.id c.in-Inner.inner c.get_inner-node.result.now c.get_inner-node.result.now.arguments c.in_ok-lead_on-in-Inner.field-0 c.in-Some.offset c.in-Some.next
    c.args.height c.requires.subtree c.in-Inner.is c.get_inner-node.ensures refl c.in_ok-lead_on-in-Inner.ensures.leads c.in-Some.is c.child_id-child.result c.child_id-child.ensures c.find_path_below.result c.find_path_below.ensures.selected

pub returns-in-Leaf-clause-way : goal.returns-in-Leaf-clause-way
returns-in-Leaf-clause-way g t c =
    ends_here g.met.S.K.Ord.total g.S.Argument.Argument.is_summary (g.S.NodeStore.slots c.args.store.now) g.S.Argument.SearchArgument.selects c.args.query c.args.height c.args.id c.in-Leaf.field-0 c.requires.subtree c.in-Leaf.is c.find_below.result c.find_below.ensures.selected c.args.path.now

pub returns-in-Some-clause-way : goal.returns-in-Some-clause-way
returns-in-Some-clause-way g t c =
    let sum = g.S.Argument.Argument.is_summary in
    let slots = g.S.NodeStore.slots c.args.store.now in
    let s : IsSubtree g.S.K.Ord.cmp sum slots c.args.height (Inner c.in-Inner.inner) = rw c.in-Inner.is at c.requires.subtree in
    let entry : InnerNodeId × ℕ × NodeId = (c.in-Inner.inner, c.in-Some.offset, c.child_id-child.result) in
    rw c.in-Inner.is
    (ok_both c.find_path_below.result (IsSelectedAt g.S.Argument.SearchArgument.selects c.in-Some.next slots (c.args.height - 1) c.child_id-child.result) (GoesOn g.S.K.Ord.cmp slots (c.args.height - 1) c.child_id-child.result (c.args.path.now ++ entry ∷ []) c.find_path_below.new.path) (GoesOn g.S.K.Ord.cmp slots c.args.height (Inner c.in-Inner.inner) c.args.path.now c.find_path_below.new.path)
    c.find_path_below.ensures.selected (rw c.push.ensures at c.find_path_below.ensures.way)
    (λ found selected on. goes_on g.met.S.K.Ord.total sum slots g.S.Argument.SearchArgument.selects c.in-Some.next c.args.height c.in-Inner.inner c.get_inner-node.result.now s c.get_inner-node.ensures c.in-Some.offset c.child_id-child.result c.child_id-child.ensures c.args.path.now c.find_path_below.new.path found selected on))

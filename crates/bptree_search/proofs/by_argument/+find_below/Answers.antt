use Rattle.std.proofs.Common.{arith, refl}
use Rattle.bptree_search.proofs.Child.{below, one_down}
use Rattle.bptree_search.proofs.Queried.{found_below, leaf_none, leaf_some, nowhere, query_child, query_within}
use Rattle.bptree_search.proofs.by_argument.+find_below.Goals as goal

pub child_id-requires : goal.child_id-requires
child_id-requires g t c =
    query_within g.met.S.K.Ord.total g.S.Argument.Argument.is_summary (g.S.NodeStore.slots c.args.store.now) g.S.Argument.SearchArgument.selects c.args.query c.args.id c.in-Inner.inner c.get_inner-node.result.now c.get_inner-node.result.now.arguments c.in_ok-lead_on-in-Inner.field-0 c.in-Some-2.index c.in-Some-2.next
    c.args.height c.requires c.in-Inner.is c.get_inner-node.ensures refl c.in_ok-lead_on-in-Inner.ensures.leads c.in-Some-2.is

pub find_below-requires : goal.find_below-requires
find_below-requires g t c κs within =
    let total = g.met.S.K.Ord.total in
    let sum = g.S.Argument.Argument.is_summary in
    let slots = g.S.NodeStore.slots c.args.store.now in
    let there = query_child total sum slots g.S.Argument.SearchArgument.selects c.args.query c.args.id c.in-Inner.inner c.get_inner-node.result.now c.get_inner-node.result.now.arguments c.in_ok-lead_on-in-Inner.field-0 c.in-Some-2.index c.in-Some-2.next c.args.height c.requires c.in-Inner.is c.get_inner-node.ensures refl c.in_ok-lead_on-in-Inner.ensures.leads c.in-Some-2.is c.child_id.result c.child_id.ensures in
    (omega (arith, one_down total sum slots c.args.height c.args.id c.in-Inner.inner c.get_inner-node.result.now c.in-Some-2.index c.child_id.result there), (within.0, (within.1.0, (within.1.1.0, (within.1.1.1.0, (within.1.1.1.1, below total sum slots c.args.height c.args.id c.in-Inner.inner c.get_inner-node.result.now c.in-Some-2.index c.child_id.result there))))))

pub returns-in-None-clause-selected : goal.returns-in-None-clause-selected
returns-in-None-clause-selected g t c =
    leaf_none g.met.S.K.Ord.total g.S.Argument.Argument.is_summary (g.S.NodeStore.slots c.args.store.now) g.S.Argument.SearchArgument.selects c.args.query c.args.id c.in-Leaf.leaf c.get_leaf.result.now c.keys-keys.result.now c.in_ok-locate_in_leaf-in-Leaf.field-0 c.args.height c.requires c.in-Leaf.is c.get_leaf.ensures c.keys-keys.ensures.value c.in_ok-locate_in_leaf-in-Leaf.ensures.selected c.in-None.is

pub returns-in-Some-clause-selected : goal.returns-in-Some-clause-selected
returns-in-Some-clause-selected g t c =
    leaf_some g.met.S.K.Ord.total g.S.Argument.Argument.is_summary (g.S.NodeStore.slots c.args.store.now) g.S.Argument.SearchArgument.selects c.args.query c.args.id c.in-Leaf.leaf c.get_leaf.result.now c.keys-keys.result.now c.in_ok-locate_in_leaf-in-Leaf.field-0 c.args.height c.requires c.in-Leaf.is c.get_leaf.ensures c.keys-keys.ensures.value c.in_ok-locate_in_leaf-in-Leaf.ensures.in_range c.in_ok-locate_in_leaf-in-Leaf.ensures.selected c.in-Some.slot c.in-Some.is

pub returns-in-None-2-clause-selected : goal.returns-in-None-2-clause-selected
returns-in-None-2-clause-selected g t c =
    nowhere g.met.S.K.Ord.total g.S.Argument.Argument.is_summary (g.S.NodeStore.slots c.args.store.now) g.S.Argument.SearchArgument.selects c.args.query c.args.id c.in-Inner.inner c.get_inner-node.result.now c.get_inner-node.result.now.arguments c.in_ok-lead_on-in-Inner.field-0 c.args.height c.requires c.in-Inner.is c.get_inner-node.ensures refl c.in_ok-lead_on-in-Inner.ensures.leads c.in-None-2.is

pub returns-in-Some-2-clause-selected : goal.returns-in-Some-2-clause-selected
returns-in-Some-2-clause-selected g t c =
    found_below g.met.S.K.Ord.total g.S.Argument.Argument.is_summary (g.S.NodeStore.slots c.args.store.now) g.S.Argument.SearchArgument.selects c.args.query c.args.id c.in-Inner.inner c.get_inner-node.result.now c.get_inner-node.result.now.arguments c.in_ok-lead_on-in-Inner.field-0 c.in-Some-2.index c.in-Some-2.next
    c.args.height c.requires c.in-Inner.is c.get_inner-node.ensures refl c.in_ok-lead_on-in-Inner.ensures.leads c.in-Some-2.is c.child_id.result c.child_id.ensures c.find_below.result c.find_below.ensures.selected

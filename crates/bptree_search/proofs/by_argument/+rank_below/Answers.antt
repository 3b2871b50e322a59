use Rattle.std.proofs.Common.{arith}
use Rattle.bptree_invariant.proofs.Down.{node_children}
use Rattle.bptree_search.proofs.Child.{below, child_at, node_at, one_down}
use Rattle.bptree_search.proofs.Queried.{present_below, present_here, ranked_below, ranked_here, slot_within}
use Rattle.bptree_search.proofs.by_argument.+rank_below.Goals as goal

pub fold_leaf-requires-clause-slot : goal.fold_leaf-requires-clause-slot
fold_leaf-requires-clause-slot g t c =
    slot_within g.met.S.K.Ord.total g.S.Argument.Argument.is_summary (g.S.NodeStore.slots c.args.store.now) c.args.k.now c.args.height c.args.id c.in-Leaf.leaf c.get_leaf-node.result.now c.requires c.in-Leaf.is c.get_leaf-node.ensures c.locate_slot-slot.result c.locate_slot-slot.ensures.ascending c.keys.result.now c.keys.ensures.value

pub locate_child-index-requires : goal.locate_child-index-requires
locate_child-index-requires g t c =
    let at = node_at g.met.S.K.Ord.total g.S.Argument.Argument.is_summary (g.S.NodeStore.slots c.args.store.now) c.args.height c.args.id c.in-Inner.inner c.get_inner-node.result.now c.requires c.in-Inner.is c.get_inner-node.ensures in
    record { node = omega (arith, node_children g.met.S.K.Ord.total (g.S.NodeStore.slots c.args.store.now) c.args.height c.in-Inner.inner c.get_inner-node.result.now at.subtree.stored at.read) }

pub rank_below-requires : goal.rank_below-requires
rank_below-requires g t c κs within =
    let total = g.met.S.K.Ord.total in
    let sum = g.S.Argument.Argument.is_summary in
    let slots = g.S.NodeStore.slots c.args.store.now in
    let at = c.locate_child-index in
    let there = child_at total sum slots c.args.height c.args.id c.in-Inner.inner c.get_inner-node.result.now c.requires c.in-Inner.is c.get_inner-node.ensures at.result.0 at.result.1 at.ensures.in_range at.ensures.child in (
      omega (arith, one_down total sum slots c.args.height c.args.id c.in-Inner.inner c.get_inner-node.result.now at.result.0 at.result.1 there),
      (within.0, (within.1.0, (within.1.1.0, (within.1.1.1.0, (within.1.1.1.1, below total sum slots c.args.height c.args.id c.in-Inner.inner c.get_inner-node.result.now at.result.0 at.result.1 there))))),
    )

pub returns-in-Leaf-clause-ranked : goal.returns-in-Leaf-clause-ranked
returns-in-Leaf-clause-ranked g t c =
    ranked_here g.met.S.K.Ord.total g.S.Argument.Argument.is_summary (g.S.NodeStore.slots c.args.store.now) c.args.k.now c.args.height c.args.id c.in-Leaf.leaf c.get_leaf-node.result.now c.requires c.in-Leaf.is c.get_leaf-node.ensures c.locate_slot-slot.result c.locate_slot-slot.ensures.ascending
    g.S.Argument.RankArgument.represents g.S.Argument.RankArgument.ranks c.args.rank c.keys.result.now c.keys.ensures.value c.fold_leaf.result c.fold_leaf.ensures.ranked

pub returns-in-Leaf-clause-present : goal.returns-in-Leaf-clause-present
returns-in-Leaf-clause-present g t c =
    present_here g.met.S.K.Ord.total g.S.Argument.Argument.is_summary (g.S.NodeStore.slots c.args.store.now) c.args.k.now c.args.height c.args.id c.in-Leaf.leaf c.get_leaf-node.result.now c.requires c.in-Leaf.is c.get_leaf-node.ensures c.locate_slot-slot.result c.locate_slot-slot.ensures.ascending c.fold_leaf.result c.fold_leaf.ensures.variant

pub returns-in_ok-next-in-Inner-clause-ranked : goal.returns-in_ok-next-in-Inner-clause-ranked
returns-in_ok-next-in-Inner-clause-ranked g t c =
    let at = c.locate_child-index in
    let there = child_at g.met.S.K.Ord.total g.S.Argument.Argument.is_summary (g.S.NodeStore.slots c.args.store.now) c.args.height c.args.id c.in-Inner.inner c.get_inner-node.result.now c.requires c.in-Inner.is c.get_inner-node.ensures at.result.0 at.result.1 at.ensures.in_range at.ensures.child in
    ranked_below g.met.S.K.Ord.total g.S.Argument.Argument.is_summary (g.S.NodeStore.slots c.args.store.now) c.args.k.now c.args.id c.in-Inner.inner c.get_inner-node.result.now at.result.0 at.result.1 g.S.Argument.RankArgument.represents g.S.Argument.RankArgument.ranks c.args.rank c.in_ok-next-in-Inner.next c.arguments.result.now c.rank_below.result c.args.height
    there at.ensures.leads c.arguments.ensures.value c.in_ok-next-in-Inner.ensures.carries c.rank_below.ensures.ranked

pub returns-in_ok-next-in-Inner-clause-present : goal.returns-in_ok-next-in-Inner-clause-present
returns-in_ok-next-in-Inner-clause-present g t c =
    let at = c.locate_child-index in
    rw (present_below g.met.S.K.Ord.total g.S.Argument.Argument.is_summary (g.S.NodeStore.slots c.args.store.now) c.args.k.now c.args.id c.in-Inner.inner c.get_inner-node.result.now at.result.0 at.result.1 c.args.height (child_at g.met.S.K.Ord.total g.S.Argument.Argument.is_summary (g.S.NodeStore.slots c.args.store.now) c.args.height c.args.id c.in-Inner.inner c.get_inner-node.result.now c.requires c.in-Inner.is c.get_inner-node.ensures at.result.0 at.result.1 at.ensures.in_range at.ensures.child) at.ensures.leads) c.rank_below.ensures.present

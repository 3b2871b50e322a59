use Rattle.bptree_batches.proofs.RankWayLemmas.{rank_to_child}
use Rattle.bptree_batches.proofs.ranks.rank_child_below.Goals as goal

pub returns : goal.returns
returns g c =
    let at = c.locate_child-child_index in
    rank_to_child g.met.S.K.Ord.total (g.S.NodeStore.slots c.args.store.now) c.args.height c.args.way.0 c.inner_id_unchecked.result c.get_inner-node.result.now c.args.key.now c.args.way.1 c.passed.result at.result.0 at.result.1
    c.arguments.result.now c.inner_id_unchecked.ensures c.requires.subtree c.get_inner-node.ensures at.ensures.leads at.ensures.in_range at.ensures.child c.arguments.ensures.value (c.passed.ensures c.args.key.now)

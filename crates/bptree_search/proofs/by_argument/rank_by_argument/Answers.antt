use Rattle.std.proofs.Common.{MatchResult}
use Rattle.std.specs.Map.{keys_of}
use Rattle.std.proofs.lemmas.Result.{IfOk-weaker}
use Rattle.bptree_search.specs.ByArgument.{RanksAmong}
use Rattle.bptree_invariant.specs.Shape.{pairs_at}
use Rattle.bptree_search.proofs.Summed.{ranked_alone, known_subtree}
use Rattle.bptree_search.proofs.by_argument.rank_by_argument.Goals as goal

pub rank_below-requires : goal.rank_below-requires
rank_below-requires g c =
    rw (← c.tree.view_is) at (known_subtree g.S.NodeStore.slots c.recall.ensures.whole c.recall.ensures.fits)

pub returns-clause-ranked : goal.returns-clause-ranked
returns-clause-ranked g c =
    let tree = c.tree.inside in
    let slots = g.S.NodeStore.slots tree.store in
    let keys = keys_of (pairs_at slots tree.height tree.root) in
    let represents = g.S.Argument.RankArgument.represents in
    let ranks = g.S.Argument.RankArgument.ranks in
    let rank = c.initial_value-rank.result in
    let subtree = rw (← c.tree.view_is) at (known_subtree g.S.NodeStore.slots c.recall.ensures.whole c.recall.ensures.fits) in
    rw (← c.tree.view_is)
    (IfOk-weaker c.rank_below.result (RanksAmong g.S.K.Ord.cmp represents ranks c.args.k.now rank keys) (λ outcome. MatchResult outcome (ranks c.args.k.now keys) (ranks c.args.k.now keys))
    (λ outcome there. ranked_alone g.met.S.K.Ord.total g.S.Argument.Argument.is_summary slots represents ranks c.args.k.now rank (c.initial_value-rank.ensures.stored c.args.k.now) tree.height tree.root subtree outcome there) c.rank_below.ensures.ranked)

pub returns-clause-present : goal.returns-clause-present
returns-clause-present g c = rw (← c.tree.view_is) c.rank_below.ensures.present

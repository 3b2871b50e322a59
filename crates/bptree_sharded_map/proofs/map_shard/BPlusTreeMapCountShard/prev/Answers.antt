use Rattle.std.proofs.Common.{◌-◌, ◌<◌, length, ap, sym, ◌∙◌, slice_get, arith}
use Rattle.bptree_keys.specs.Contents.{pairs_below}
use Rattle.bptree_sharded_map.proofs.RankLemmas.{count_is, previous_at, none_previous}
use Rattle.bptree_sharded_map.proofs.map_shard.BPlusTreeMapCountShard.prev.Goals as goal

pub returns-then-rank-eq0 : goal.returns-then-rank-eq0
returns-then-rank-eq0 g c =
    let rank = c.rank_in-rank.ensures.rank ∙ count_is g.K.Ord.cmp c.args.k.now c.args.self.now in
    none_previous g.K.Ord.cmp g.met.K.Ord.total c.args.self.now c.rank_in-rank.ensures.ascending c.args.k.now (sym rank ∙ c.if-rank-eq0.true)

pub returns : goal.returns
returns g c =
    let rank = c.rank_in-rank.ensures.rank ∙ count_is g.K.Ord.cmp c.args.k.now c.args.self.now in
    let some : 0 < length (pairs_below g.K.Ord.cmp c.args.self.now c.args.k.now) = omega (arith, rank, c.if-rank-eq0.false) in
    c.get_index.ensures ∙ ap (λ n. slice_get c.args.self.now (n - 1)) rank ∙ previous_at g.K.Ord.cmp g.met.K.Ord.total c.args.self.now c.rank_in-rank.ensures.ascending c.args.k.now some

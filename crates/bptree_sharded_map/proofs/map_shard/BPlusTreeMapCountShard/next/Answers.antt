use Rattle.std.proofs.Common.{◌+◌, ap, sym, ◌∙◌, slice_get, arith}
use Rattle.bptree_sharded_map.proofs.RankLemmas.{count_is, below_short, next_hit, next_gap}
use Rattle.bptree_sharded_map.proofs.map_shard.BPlusTreeMapCountShard.next.Goals as goal

pub overflow_add-rank : goal.overflow_add-rank
overflow_add-rank g c =
    let there = sym c.rank_in-rank.ensures.present ∙ c.if-present.true in
    let short = below_short g.K.Ord.cmp g.met.K.Ord.total c.args.self.now c.rank_in-rank.ensures.ascending c.args.k.now there in
    let rank = c.rank_in-rank.ensures.rank ∙ count_is g.K.Ord.cmp c.args.k.now c.args.self.now in
    omega (arith, short, rank, c.rank_in-rank.ensures.small)

pub returns-then-present : goal.returns-then-present
returns-then-present g c =
    let there = sym c.rank_in-rank.ensures.present ∙ c.if-present.true in
    let rank = c.rank_in-rank.ensures.rank ∙ count_is g.K.Ord.cmp c.args.k.now c.args.self.now in
    c.get_index.ensures ∙ ap (λ n. slice_get c.args.self.now (n + 1)) rank ∙ next_hit g.K.Ord.cmp g.met.K.Ord.total c.args.self.now c.rank_in-rank.ensures.ascending c.args.k.now there

pub returns : goal.returns
returns g c =
    let absent = sym c.rank_in-rank.ensures.present ∙ c.if-present.false in
    let rank = c.rank_in-rank.ensures.rank ∙ count_is g.K.Ord.cmp c.args.k.now c.args.self.now in
    c.get_index-2.ensures ∙ ap (λ n. slice_get c.args.self.now n) rank ∙ next_gap g.K.Ord.cmp g.met.K.Ord.total c.args.self.now c.rank_in-rank.ensures.ascending c.args.k.now absent

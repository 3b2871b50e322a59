use Rattle.std.proofs.Common.{◌+◌, length, take, ap, ◌∙◌, arith}
use Rattle.std.specs.List.{sum}
use Rattle.bptree_keys.specs.Contents.{pairs_below}
use Rattle.bptree_sharded_map.specs.Whole.{contents}
use Rattle.bptree_sharded_map.proofs.Asked.{rank_asked, rank_fits}
use Rattle.bptree_sharded_map.proofs.whole.Shards.rank.Goals as goal

pub rank_of_whole-requires-clause-fits : goal.rank_of_whole-requires-clause-fits
rank_of_whole-requires-clause-fits g c =
    let fits = rank_fits g.met.S.K.Ord.total g.S.Shard.pairs c.self.inside.shards.items c.self.invariant c.args.k.now c.route-at.result c.route-at.ensures.shard c.deref.ensures.value c.index.result.now c.index.ensures in
    omega (arith, fits, ap (λ ls. sum (take c.route-at.result ls)) c.deref-2.ensures.value, c.rank-own.ensures)

pub returns : goal.returns
returns g c =
    c.rank_of_whole.ensures ∙ ap (λ ls. sum (take c.route-at.result ls) + c.rank-own.result) c.deref-2.ensures.value
    ∙ ap (λ n. sum (take c.route-at.result c.self.inside.lengths.items) + n) c.rank-own.ensures
    ∙ rank_asked g.met.S.K.Ord.total g.S.Shard.pairs c.self.inside.shards.items c.self.invariant c.args.k.now c.route-at.result c.route-at.ensures.shard c.deref.ensures.value c.index.result.now c.index.ensures ∙ ap (λ l. length (pairs_below g.S.K.Ord.cmp l c.args.k.now)) (ap contents c.self.view_is)

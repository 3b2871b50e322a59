use Rattle.std.proofs.Common.{◌++◌, ◌∷◌, [], take, map, ap, sym, ◌∙◌, arith}
use Rattle.std.specs.List.{sum}
use Rattle.bptree_shard_routing.specs.Lengths.{lengths_of}
use Rattle.bptree_shard_routing.proofs.LengthLemmas.{total}
use Rattle.bptree_sharded_map.proofs.Asked.{lengths_more, lengths_all}
use Rattle.bptree_sharded_map.proofs.whole.Shards.new.Goals as goal

pub loop-shard-preserved : goal.loop-shard-preserved
loop-shard-preserved g c =
    let items = c.deref-shard-items.result.now in
    let at = c.loop-shard.shard-index in
    c.in_ok-push.ensures.items ∙ ap (λ l. l ++ c.len.result ∷ []) c.loop-shard.invariant
    ∙ ap (λ n. take at (lengths_of (map g.S.Shard.pairs items)) ++ n ∷ []) c.len.ensures
    ∙ sym (lengths_more g.S.Shard.pairs items at c.shard-item.result c.loop-shard-test.true c.shard-item.is)

pub invariant_of-result : goal.invariant_of-result
invariant_of-result g c =
    let items = c.deref-shard-items.result.now in
    let at = c.loop-shard.shard-index in
    let counted = c.loop-shard.invariant ∙ lengths_all g.S.Shard.pairs items at c.loop-shard-test.false ∙ ap (λ l. lengths_of (map g.S.Shard.pairs l)) c.deref-shard-items.ensures.value in
    let long = ap sum counted ∙ sym (total (map g.S.Shard.pairs c.args.shards.items)) in
    record { are = c.requires.are; counted = counted; fits = omega (arith, long, c.requires.fits) }

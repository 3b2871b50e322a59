use Rattle.std.proofs.Common.{length, ap, ◌∙◌}
use Rattle.std.specs.List.{sum}
use Rattle.bptree_shard_routing.specs.Lengths.{lengths_of}
use Rattle.bptree_sharded_map.specs.Whole.{contents}
use Rattle.bptree_sharded_map.proofs.Asked.{len_whole}
use Rattle.bptree_sharded_map.proofs.whole.Shards.lengths.Goals as goal

pub returns-clause-each : goal.returns-clause-each
returns-clause-each g c =
    c.deref.ensures.value ∙ c.self.invariant.counted ∙ ap (λ it. lengths_of it.shards) c.self.view_is

pub returns-clause-total : goal.returns-clause-total
returns-clause-total g c =
    ap sum c.deref.ensures.value
    ∙ len_whole g.met.S.K.Ord.total g.S.Shard.pairs c.self.inside.shards.items c.self.invariant ∙ ap length (ap contents c.self.view_is)

use Rattle.std.proofs.Common.{length, ap, ◌∙◌}
use Rattle.std.specs.List.{sum}
use Rattle.bptree_sharded_map.specs.Whole.{contents}
use Rattle.bptree_sharded_map.proofs.Asked.{len_whole}
use Rattle.bptree_sharded_map.proofs.whole.Shards.len.Goals as goal

pub returns-clause-value : goal.returns-clause-value
returns-clause-value g c =
    c.len_of_whole.ensures ∙ ap sum c.deref.ensures.value
    ∙ len_whole g.met.S.K.Ord.total g.S.Shard.pairs c.self.inside.shards.items c.self.invariant ∙ ap length (ap contents c.self.view_is)

use Rattle.std.proofs.Common.{◌∙◌}
use Rattle.bptree_sharded_map.proofs.Asked.{last_some}
use Rattle.bptree_sharded_map.proofs.whole.last_before.Goals as goal

pub returns-in-Some : goal.returns-in-Some
returns-in-Some g c =
    c.at.ensures ∙ last_some g.S.Shard.pairs c.args.shards.now c.requires.counted c.args.end c.requires.in_range c.in-Some.shard c.index-shards-shard.result c.in-Some.ensures c.index-shards-shard.is

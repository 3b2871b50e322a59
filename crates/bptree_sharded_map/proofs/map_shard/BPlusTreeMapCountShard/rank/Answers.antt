use Rattle.std.proofs.Common.{◌∙◌}
use Rattle.bptree_sharded_map.proofs.RankLemmas.{count_is}
use Rattle.bptree_sharded_map.proofs.map_shard.BPlusTreeMapCountShard.rank.Goals as goal

pub returns : goal.returns
returns g c = c.rank_in.ensures.rank ∙ count_is g.K.Ord.cmp c.args.k.now c.args.self.now

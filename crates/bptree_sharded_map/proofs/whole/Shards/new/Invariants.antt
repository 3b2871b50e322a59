use Rattle.std.proofs.Common.{◌≡◌, map, take}
use Rattle.bptree_shard_routing.specs.Lengths.{lengths_of}
use Rattle.bptree_sharded_map.proofs.whole.Shards.new.Given as goal

abbrev pub invariant-loop-shard : goal.invariant-loop-shard
invariant-loop-shard g l = l.lengths.items ≡ take l.shard-index (lengths_of (map (λ shard. g.S.Shard.pairs shard) l.shard-items))

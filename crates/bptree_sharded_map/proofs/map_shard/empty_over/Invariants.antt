use Rattle.std.proofs.Common.{◌≡◌, ◌+◌, [], length, map}
use Rattle.bptree_keys.specs.Pieces.{flatten}
use Rattle.bptree_sharded_map.proofs.map_shard.empty_over.Given as goal

abbrev pub invariant-loop : goal.invariant-loop
invariant-loop g l = record { count : length l.maps.items ≡ l.counter + 1; empty : flatten (map (λ shard. shard) l.maps.items) ≡ [] }

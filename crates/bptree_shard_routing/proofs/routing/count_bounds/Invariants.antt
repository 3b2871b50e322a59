use Rattle.std.proofs.Common.{◌≡◌, ◌+◌, length}
use Rattle.bptree_shard_routing.specs.Shards.{bounds_before}
use Rattle.bptree_shard_routing.proofs.routing.count_bounds.Given as goal

abbrev pub invariant-loop-bound : goal.invariant-loop-bound
invariant-loop-bound g l = record {
  so_far : bounds_before g.K.Ord.cmp l.fn.or_equals l.fn.bounds l.fn.k ≡ l.at + bounds_before g.K.Ord.cmp l.fn.or_equals l.rest l.fn.k;
  all : l.at + length l.rest ≡ length l.fn.bounds;
}

abbrev pub decreases-loop-bound : goal.decreases-loop-bound
decreases-loop-bound g l = length l.rest

use Rattle.std.proofs.Common.{◌≤◌}
use Rattle.bptree_shard_routing.specs.Lengths.{AreAllEmpty}
use Rattle.bptree_shard_routing.proofs.combining.prev_full.Given as goal

abbrev pub invariant-loop-shard : goal.invariant-loop-shard
invariant-loop-shard l = record { in_range : l.shard ≤ l.fn.before; empty : AreAllEmpty l.lengths l.shard l.fn.before }

abbrev pub decreases-loop-shard : goal.decreases-loop-shard
decreases-loop-shard l = l.shard

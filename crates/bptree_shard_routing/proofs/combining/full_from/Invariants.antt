use Rattle.bptree_shard_routing.specs.Lengths.{AreAllEmpty}
use Rattle.bptree_shard_routing.proofs.combining.full_from.Given as goal

abbrev pub invariant-loop-shard : goal.invariant-loop-shard
invariant-loop-shard l = AreAllEmpty l.lengths l.from l.shard

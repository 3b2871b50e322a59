use Rattle.std.proofs.Common.{◌-◌, ◌≤◌, length}
use Rattle.bptree_examples.proofs.benchmark.batches.read_batches.Given as goal

abbrev pub invariant-batches : goal.invariant-batches
invariant-batches g l = l.at ≤ length l.keys

abbrev pub decreases-batches : goal.decreases-batches
decreases-batches g l = length l.keys - l.at

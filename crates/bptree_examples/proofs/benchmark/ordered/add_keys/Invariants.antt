use Rattle.std.proofs.Common.{length}
use Rattle.bptree_examples.proofs.benchmark.ordered.add_keys.Given as goal

abbrev pub decreases-keys : goal.decreases-keys
decreases-keys g l = length l.left

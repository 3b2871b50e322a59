use Rattle.std.proofs.Common.{length}
use Rattle.bptree_propagation.proofs.ascent.+ascend_split.Given as goal

abbrev pub decreases-ascend_split : goal.decreases-ascend_split
decreases-ascend_split g l = length l.path.now

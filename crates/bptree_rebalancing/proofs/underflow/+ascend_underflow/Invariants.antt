use Rattle.std.proofs.Common.{length}
use Rattle.bptree_rebalancing.proofs.underflow.+ascend_underflow.Given as goal

abbrev pub decreases-ascend_underflow : goal.decreases-ascend_underflow
decreases-ascend_underflow g l = length l.path.now

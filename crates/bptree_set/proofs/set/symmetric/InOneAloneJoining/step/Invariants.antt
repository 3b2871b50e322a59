use Rattle.std.proofs.Common.{◌≡◌, ◌+◌, length}
use Rattle.bptree_set.specs.Joined.{AreNoLonger}
use Rattle.bptree_set.specs.Symmetric.{symmetric}
use Rattle.bptree_set.proofs.set.symmetric.InOneAloneJoining.step.Given as goal

abbrev pub invariant-loop-first : goal.invariant-loop-first
invariant-loop-first g l =
    (symmetric g.K.Ord.cmp l.initial.merge.0 l.initial.merge.1 ≡ symmetric g.K.Ord.cmp l.merge.0 l.merge.1) × AreNoLonger l.initial.merge l.merge

abbrev pub decreases-loop-first : goal.decreases-loop-first
decreases-loop-first g l = length l.merge.0 + length l.merge.1

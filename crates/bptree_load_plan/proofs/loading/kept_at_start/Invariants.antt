use Rattle.std.proofs.Common.{◌-◌, ◌≤◌, length}
use Rattle.bptree_load_plan.specs.Loading.{StayBefore}
use Rattle.bptree_load_plan.proofs.loading.kept_at_start.Given as goal

abbrev pub invariant-loop-at : goal.invariant-loop-at
invariant-loop-at g l = record {
  within : l.at ≤ length l.pairs;
  stay : StayBefore g.K.Ord.cmp l.pairs l.at;
}

abbrev pub decreases-loop-at : goal.decreases-loop-at
decreases-loop-at g l = length l.pairs - l.at

use Rattle.std.proofs.Common.{◌≡◌, ◌+◌, ◌-◌, ◌≤◌, take}
use Rattle.bptree_arguments.specs.CountLaws.{sum_counts}
use Rattle.bptree_batches.proofs.selects.pass_fours.Given as goal

-- what is left of the index is the part that has not been passed
abbrev pub invariant-fours : goal.invariant-fours
invariant-fours l = record {
  within : l.child_index ≤ l.last;
  passed : l.rest + sum_counts (take l.child_index l.counts) ≡ l.index;
}

abbrev pub decreases-fours : goal.decreases-fours
decreases-fours l = l.last - l.child_index

use Rattle.std.proofs.Common.{◌≡◌, ◌+◌, ◌-◌, ◌≤◌, take}
use Rattle.bptree_arguments.specs.CountLaws.{sum_counts}
use Rattle.bptree_batches.proofs.selects.index_of.Given as goal

-- what is left of the index is the part that has not been passed
abbrev pub invariant-counts : goal.invariant-counts
invariant-counts l = record {
  within : l.child_index ≤ l.last;
  passed : l.rest + sum_counts (take l.child_index l.counts) ≡ l.index;
}

abbrev pub decreases-counts : goal.decreases-counts
decreases-counts l = l.last - l.child_index

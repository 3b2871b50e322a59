use Rattle.std.proofs.Common.{◌≡◌, ◌+◌, ◌-◌, ◌≤◌, drop, length}
use Rattle.bptree_bulk.specs.Weave.{first_count, second_count}
use Rattle.bptree_bulk.proofs.weaving.takes_of.Given as goal

abbrev pub invariant-steps : goal.invariant-steps
invariant-steps l = record {
  within : l.i ≤ length l.fn.steps;
  first : l.ones + first_count (drop l.i l.fn.steps) ≡ first_count l.fn.steps;
  second : l.others + second_count (drop l.i l.fn.steps) ≡ second_count l.fn.steps;
  most_first : l.ones ≤ l.i;
  most_second : l.others ≤ l.i;
}

abbrev pub decreases-steps : goal.decreases-steps
decreases-steps l = length l.fn.steps - l.i

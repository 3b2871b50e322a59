-- The steps so far lead from all pairs to those that are left.
use Rattle.std.proofs.Common.{◌+◌, ◌≤◌, length}
use Rattle.std.specs.Prelude.{vec_capacity, vec_len}
use Rattle.bptree_bulk.specs.Weave.{Goes}
use Rattle.bptree_bulk.proofs.weaving.steps_of.Given as goal

abbrev pub invariant-leaves : goal.invariant-leaves
invariant-leaves g l = record {
  goes : Goes g.S.K.Ord.cmp l.steps.items l.fn.first.contents l.fn.second.contents l.ones l.others;
  room : vec_len l.steps + (length l.ones + length l.others) ≤ vec_capacity l.steps;
}

abbrev pub decreases-leaves : goal.decreases-leaves
decreases-leaves g l = length l.ones + length l.others

abbrev pub invariant-steps : goal.invariant-steps
invariant-steps g l = record {
  goes : Goes g.S.K.Ord.cmp l.steps.items l.fn.first.contents l.fn.second.contents l.ones l.others;
  room : vec_len l.steps + (length l.ones + length l.others) ≤ vec_capacity l.steps;
}

abbrev pub decreases-steps : goal.decreases-steps
decreases-steps g l = length l.ones + length l.others

-- The steps so far lead from all pairs to those that are left.
use Rattle.std.proofs.Common.{◌+◌, ◌-◌, ◌≤◌, drop, length}
use Rattle.std.specs.Prelude.{vec_capacity, vec_len}
use Rattle.bptree_bulk.specs.Weave.{AddsSteps}
use Rattle.bptree_bulk.proofs.weaving.take_steps.Given as goal

abbrev pub invariant-steps : goal.invariant-steps
invariant-steps g l = record {
  first : l.i ≤ length l.one;
  second : l.j ≤ length l.other;
  room : vec_len l.steps + (length l.fn.first - l.i + (length l.fn.second - l.j)) ≤ vec_capacity l.steps;
  added : AddsSteps g.S.K.Ord.cmp l.fn.steps.items l.steps.items l.fn.first l.fn.second (drop l.i l.fn.first) (drop l.j l.fn.second);
}

abbrev pub decreases-steps : goal.decreases-steps
decreases-steps g l = length l.one - l.i + (length l.other - l.j)

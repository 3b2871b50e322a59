-- A summary of each key so far, and the pairs that are left.
use Rattle.std.proofs.Common.{◌≡◌, ◌-◌, ◌≤◌, List, drop, length, take}
use Rattle.std.specs.Prelude.{vec_capacity, vec_len}
use Rattle.bptree_bulk.specs.Weave.{Goes}
use Rattle.bptree_bulk.proofs.Summed.{AreSummed}
use Rattle.bptree_bulk.proofs.weaving.plan_steps.Given as goal

abbrev pub invariant-steps : goal.invariant-steps
invariant-steps g l = record {
  within : l.i ≤ length l.fn.steps;
  counted : vec_len l.sums ≡ l.i;
  room : 64 ≤ vec_capacity l.sums;
  leads : Goes g.S.K.Ord.cmp (take l.i l.fn.steps) l.fn.first l.fn.second l.first l.second;
  rest : List (g.row.S-K.Denot × g.row.S-V.Denot) × List (g.row.S-K.Denot × g.row.S-V.Denot);
  goes : Goes g.S.K.Ord.cmp (drop l.i l.fn.steps) l.first l.second rest.0 rest.1;
  summed : AreSummed g.S.K.Ord.cmp g.S.Argument.Argument.is_summary l.fn.steps l.fn.first l.fn.second l.i l.sums.items;
}

abbrev pub decreases-steps : goal.decreases-steps
decreases-steps g l = length l.fn.steps - l.i

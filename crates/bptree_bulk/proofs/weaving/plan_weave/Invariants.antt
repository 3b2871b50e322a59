-- A leaf is planned for the pairs of each part of the steps so far.
use Rattle.std.proofs.Common.{◌≡◌, ◌-◌, ◌≤◌, List, drop, length, take}
use Rattle.std.specs.Prelude.{vec_capacity}
use Rattle.bptree_bulk_load.specs.Rooms.{ArePlanned}
use Rattle.bptree_bulk.specs.Filling.{AreParts}
use Rattle.bptree_bulk.specs.Weave.{woven, Goes, Weaves}
use Rattle.bptree_bulk.proofs.weaving.plan_weave.Given as goal

abbrev pub invariant-parts : goal.invariant-parts
invariant-parts g l = record {
  within : l.done ≤ length l.steps.items;
  goes : Goes g.S.K.Ord.cmp (take l.done l.steps.items) l.fn.first.contents l.fn.second.contents l.ones l.others;
  rest : Weaves g.S.K.Ord.cmp (drop l.done l.steps.items) l.ones l.others;
  parts : List (List (g.row.S-K.Denot × g.row.S-V.Denot));
  are : AreParts (woven l.steps.items l.fn.first.contents l.fn.second.contents) parts (woven (drop l.done l.steps.items) l.ones l.others);
  planned : ArePlanned g.S.K.Ord.cmp g.S.Argument.Argument.is_summary (g.S.NodeStore.slots l.plan.store) l.plan.ids.items l.plan.trees.items parts;
  as_many : l.count ≡ length parts;
  few : l.count ≤ l.done;
  room : 64 ≤ vec_capacity l.sums;
}

abbrev pub decreases-parts : goal.decreases-parts
decreases-parts g l = length l.steps.items - l.done

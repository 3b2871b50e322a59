use Rattle.std.proofs.Common.{◌≤◌, ◌-◌, ◌++◌, List, length, take}
use Rattle.bptree_bulk_load.specs.Rooms.{parts_of, ArePlanned}
use Rattle.bptree_tree.proofs.building.plan_filled.Given as goal

abbrev pub invariant-leaves : goal.invariant-leaves
invariant-leaves g l = record {
  within : l.i ≤ length l.fn.leaves;
  planned : (parts : List (List (g.row.S-K.Denot × g.row.S-V.Denot))) → ArePlanned g.S.K.Ord.cmp g.S.Argument.Argument.is_summary (g.S.NodeStore.slots l.fn.plan.store) l.fn.plan.ids.items l.fn.plan.trees.items parts
      → ArePlanned g.S.K.Ord.cmp g.S.Argument.Argument.is_summary (g.S.NodeStore.slots l.plan.store) l.plan.ids.items l.plan.trees.items (parts ++ parts_of (take l.i l.fn.leaves));
}

abbrev pub decreases-leaves : goal.decreases-leaves
decreases-leaves g l = length l.fn.leaves - l.i

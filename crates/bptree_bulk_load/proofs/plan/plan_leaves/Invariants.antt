use Rattle.std.proofs.Common.{◌≤◌, ◌-◌, ◌++◌, List, length, map, take}
use Rattle.bptree_bulk_load.specs.Rooms.{pairs_under, ArePlanned}
use Rattle.bptree_bulk_load.proofs.plan.plan_leaves.Given as goal

abbrev pub invariant-ids : goal.invariant-ids
invariant-ids g l = record {
  within : l.i ≤ length l.fn.ids;
  planned : (parts : List (List (g.row.S-K.Denot × g.row.S-V.Denot))) → ArePlanned g.S.K.Ord.cmp g.S.Argument.Argument.is_summary (g.S.NodeStore.slots l.fn.plan.store) l.fn.plan.ids.items l.fn.plan.trees.items parts
      → ArePlanned g.S.K.Ord.cmp g.S.Argument.Argument.is_summary (g.S.NodeStore.slots l.plan.store) l.plan.ids.items l.plan.trees.items (parts ++ map (pairs_under (g.S.NodeStore.slots l.fn.store)) (take l.i l.fn.ids));
}

abbrev pub decreases-ids : goal.decreases-ids
decreases-ids g l = length l.fn.ids - l.i

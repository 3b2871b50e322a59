use Rattle.std.proofs.Common.{◌≡◌, ◌+◌, ◌-◌, ◌≤◌, ◌++◌, drop, length, map, take}
use Rattle.std.specs.Prelude.{vec_capacity, vec_len}
use Rattle.bptree_bulk_load.specs.Rooms.{pairs_under, parts_of, KeepsLeaves}
use Rattle.bptree_bulk_load.proofs.leaves.take_leaves.Given as goal

abbrev pub invariant-ids : goal.invariant-ids
invariant-ids g l = record {
  within : l.i ≤ length l.fn.ids;
  len : vec_len l.leaves ≡ vec_len l.fn.leaves + l.i;
  capacity : vec_capacity l.leaves ≡ vec_capacity l.fn.leaves;
  leaves : parts_of l.leaves.items ≡ parts_of l.fn.leaves.items ++ map (pairs_under (g.S.NodeStore.slots l.fn.store)) (take l.i l.fn.ids);
  others : KeepsLeaves (g.S.NodeStore.slots l.fn.store) (g.S.NodeStore.slots l.store) (take l.i l.fn.ids);
}

abbrev pub decreases-ids : goal.decreases-ids
decreases-ids g l = length l.fn.ids - l.i

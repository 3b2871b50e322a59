use Rattle.std.proofs.Common.{◌≡◌, ◌+◌, ◌-◌, ◌≤◌, length, drop}
use Rattle.bptree_bulk_load.specs.Rooms.{joined, parts_of}
use Rattle.bptree_bulk.proofs.moving.pairs_in.Given as goal

abbrev pub invariant-leaves : goal.invariant-leaves
invariant-leaves g l = record {
  within : l.i ≤ length l.fn.leaves;
  count : l.count + length (joined (parts_of (drop l.i l.fn.leaves))) ≡ length (joined (parts_of l.fn.leaves));
}

abbrev pub decreases-leaves : goal.decreases-leaves
decreases-leaves g l = length l.fn.leaves - l.i

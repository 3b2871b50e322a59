use Rattle.std.proofs.Common.{◌≡◌, ◌+◌, ◌-◌, ◌≤◌, length, drop}
use Rattle.bptree_ranges.specs.Ranges.{ahead}
use Rattle.bptree_bulk.proofs.cut.index_of.Given as goal

abbrev pub invariant-ids : goal.invariant-ids
invariant-ids l = record {
  within : l.i ≤ length l.fn.ids;
  same : l.i + length (ahead l.fn.id.0 (drop l.i l.fn.ids)) ≡ length (ahead l.fn.id.0 l.fn.ids);
}

abbrev pub decreases-ids : goal.decreases-ids
decreases-ids l = length l.fn.ids - l.i

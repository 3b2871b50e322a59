use Rattle.std.proofs.Common.{◌≡◌, ◌-◌, ◌≤◌, length}
use Rattle.bptree_bulk.specs.Cut.{pairs_before}
use Rattle.bptree_bulk.proofs.gap.count_pairs.Given as goal

abbrev pub invariant-ids : goal.invariant-ids
invariant-ids g l = record {
  within : l.i ≤ length l.fn.ids;
  count : l.count ≡ pairs_before (g.S.NodeStore.slots l.fn.store) l.fn.ids l.i;
}

abbrev pub decreases-ids : goal.decreases-ids
decreases-ids g l = length l.fn.ids - l.i

use Rattle.std.proofs.Common.{◌+◌, ◌-◌, ◌≤◌, length, zip}
use Rattle.bptree_batches.specs.Slots.{IsSlotOfLeaf}
use Rattle.bptree_batches.specs.Ways.{AllSplit}
use Rattle.bptree_batches.proofs.leaves.end_group.Given as goal

abbrev pub invariant-keys : goal.invariant-keys
invariant-keys g l = record {
  within : l.at ≤ length l.keys;
  slots : AllSplit (λ at slot. IsSlotOfLeaf g.S.K.Ord.cmp (g.S.NodeStore.slots l.store) at.0 at.1 slot) (λ at slot. Unit {0}) l.at (zip l.nodes l.keys) l.slots;
  counts_on : l.fn.compares ≤ l.compares;
  count : l.compares ≤ l.fn.compares + l.at;
}

abbrev pub decreases-keys : goal.decreases-keys
decreases-keys g l = length l.keys - l.at

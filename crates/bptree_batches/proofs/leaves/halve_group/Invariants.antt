use Rattle.std.proofs.Common.{◌≡◌, ◌+◌, ◌-◌, ◌≤◌, length, zip}
use Rattle.bptree_batches.specs.Slots.{IsSpanOf}
use Rattle.bptree_batches.specs.Ways.{AllSplit}
use Rattle.bptree_batches.proofs.leaves.halve_group.Given as goal

abbrev pub invariant-keys : goal.invariant-keys
invariant-keys g l = record {
  within : l.at ≤ length l.keys;
  len : length l.spans ≡ length l.keys;
  spans : AllSplit (IsSpanOf g.S.K.Ord.cmp (g.S.NodeStore.slots l.store) l.most) (IsSpanOf g.S.K.Ord.cmp (g.S.NodeStore.slots l.store) (l.most + l.most)) l.at (zip l.nodes l.keys) l.spans;
  counts_on : l.fn.compares ≤ l.compares;
  count : l.compares ≤ l.fn.compares + l.at;
}

abbrev pub decreases-keys : goal.decreases-keys
decreases-keys g l = length l.keys - l.at

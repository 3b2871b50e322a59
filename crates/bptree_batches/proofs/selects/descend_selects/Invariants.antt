use Rattle.std.proofs.Common.{◌-◌, ◌≤◌, length}
use Rattle.std.specs.List.{AllZip}
use Rattle.bptree_batches.specs.SelectWays.{IsSelectWay}
use Rattle.bptree_batches.specs.Ways.{AllSplit}
use Rattle.bptree_batches.proofs.selects.descend_selects.Given as goal

abbrev pub invariant-starts : goal.invariant-starts
invariant-starts g l = record {
  within : l.filled ≤ length l.indexes;
  ways : AllSplit (IsSelectWay g.S.K.Ord.cmp (g.S.NodeStore.slots l.store) l.height l.root l.height) (λ i way. Unit {0}) l.filled l.indexes l.ways;
}

abbrev pub decreases-starts : goal.decreases-starts
decreases-starts g l = length l.indexes - l.filled

abbrev pub invariant-levels : goal.invariant-levels
invariant-levels g l = AllZip (IsSelectWay g.S.K.Ord.cmp (g.S.NodeStore.slots l.store) l.height l.fn.root l.level) l.indexes l.ways

abbrev pub decreases-levels : goal.decreases-levels
decreases-levels g l = l.level

abbrev pub invariant-indexes : goal.invariant-indexes
invariant-indexes g l = record {
  within : l.at ≤ length l.indexes;
  ways : AllSplit (IsSelectWay g.S.K.Ord.cmp (g.S.NodeStore.slots l.store) l.height l.fn.root (l.level - 1)) (IsSelectWay g.S.K.Ord.cmp (g.S.NodeStore.slots l.store) l.height l.fn.root l.level) l.at l.indexes l.ways;
}

abbrev pub decreases-indexes : goal.decreases-indexes
decreases-indexes g l = length l.indexes - l.at

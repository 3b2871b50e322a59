use Rattle.std.proofs.Common.{◌-◌, ◌≤◌, length}
use Rattle.std.specs.List.{AllZip}
use Rattle.bptree_batches.specs.RankWays.{IsRankWay}
use Rattle.bptree_batches.specs.Ways.{AllSplit}
use Rattle.bptree_batches.proofs.ranks.descend_ranks.Given as goal

abbrev pub invariant-starts : goal.invariant-starts
invariant-starts g l = record {
  within : l.filled ≤ length l.keys;
  ways : AllSplit (IsRankWay g.S.K.Ord.cmp (g.S.NodeStore.slots l.store) l.height l.root 0 l.height) (λ k way. Unit {0}) l.filled l.keys l.ways;
}

abbrev pub decreases-starts : goal.decreases-starts
decreases-starts g l = length l.keys - l.filled

abbrev pub invariant-levels : goal.invariant-levels
invariant-levels g l = AllZip (IsRankWay g.S.K.Ord.cmp (g.S.NodeStore.slots l.store) l.height l.fn.root 0 l.level) l.keys l.ways

abbrev pub decreases-levels : goal.decreases-levels
decreases-levels g l = l.level

abbrev pub invariant-keys : goal.invariant-keys
invariant-keys g l = record {
  within : l.at ≤ length l.keys;
  ways : AllSplit (IsRankWay g.S.K.Ord.cmp (g.S.NodeStore.slots l.store) l.height l.fn.root 0 (l.level - 1)) (IsRankWay g.S.K.Ord.cmp (g.S.NodeStore.slots l.store) l.height l.fn.root 0 l.level) l.at l.keys l.ways;
}

abbrev pub decreases-keys : goal.decreases-keys
decreases-keys g l = length l.keys - l.at

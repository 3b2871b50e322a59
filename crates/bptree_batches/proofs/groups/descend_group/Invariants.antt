use Rattle.std.proofs.Common.{◌-◌, ◌≤◌, length}
use Rattle.std.specs.List.{AllZip}
use Rattle.bptree_batches.specs.Ways.{AllSplit, IsOnWay}
use Rattle.bptree_batches.proofs.groups.descend_group.Given as goal

abbrev pub invariant-starts : goal.invariant-starts
invariant-starts g l = record {
  within : l.filled ≤ length l.keys;
  ways : AllSplit (IsOnWay g.S.K.Ord.cmp (g.S.NodeStore.slots l.store) l.height l.root l.height) (λ k node. Unit {0}) l.filled l.keys l.nodes;
}

abbrev pub decreases-starts : goal.decreases-starts
decreases-starts g l = length l.keys - l.filled

abbrev pub invariant-levels : goal.invariant-levels
invariant-levels g l = AllZip (IsOnWay g.S.K.Ord.cmp (g.S.NodeStore.slots l.store) l.height l.fn.root l.level) l.keys l.nodes

abbrev pub decreases-levels : goal.decreases-levels
decreases-levels g l = l.level

abbrev pub invariant-keys : goal.invariant-keys
invariant-keys g l = record {
  within : l.at ≤ length l.keys;
  ways : AllSplit (IsOnWay g.S.K.Ord.cmp (g.S.NodeStore.slots l.store) l.height l.fn.root (l.level - 1)) (IsOnWay g.S.K.Ord.cmp (g.S.NodeStore.slots l.store) l.height l.fn.root l.level) l.at l.keys l.nodes;
}

abbrev pub decreases-keys : goal.decreases-keys
decreases-keys g l = length l.keys - l.at

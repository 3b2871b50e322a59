use Rattle.std.proofs.Common.{length, take, ◌-◌, ◌≡◌, ◌≤◌}
use Rattle.bptree_map.specs.Many.{removed_each, without_each}
use Rattle.bptree_map.proofs.map.BPlusTreeMap.remove_many.Given as goal

abbrev pub invariant-keys : goal.invariant-keys
invariant-keys g l = record {
  within : l.at ≤ length l.keys;
  left : l.self ≡ without_each g.K.Ord.cmp l.fn.self (take l.at l.keys);
  removed : l.removed ≡ removed_each g.K.Ord.cmp l.fn.self (take l.at l.keys) l.fn.removed;
}

abbrev pub decreases-keys : goal.decreases-keys
decreases-keys g l = length l.keys - l.at

use Rattle.std.proofs.Common.{◌+◌, ◌≡◌, ◌≤◌, ◌-◌, length, take}
use Rattle.std.specs.List.{count_by}
use Rattle.std.specs.Ordering.{is_le}
use Rattle.bptree_keys.proofs.compares.count_upto_few.Given as goal

abbrev pub invariant-keys : goal.invariant-keys
invariant-keys g l = record {
  within : l.at ≤ length l.keys;
  counted : l.upto ≡ count_by (λ y. is_le (g.K.Ord.cmp y l.key)) (take l.at l.keys);
  from_there : l.fn.compares ≤ l.compares;
  few : l.compares ≤ l.fn.compares + l.at;
}

abbrev pub decreases-keys : goal.decreases-keys
decreases-keys g l = length l.keys - l.at

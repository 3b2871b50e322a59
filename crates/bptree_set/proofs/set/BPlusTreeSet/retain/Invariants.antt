-- The keys that stay, and then those that the closure was not called for, ascend.
use Rattle.std.proofs.Common.{◌≡◌, ◌+◌, ◌≤◌, ◌++◌, length}
use Rattle.std.specs.Fn.{CalledAt}
use Rattle.std.specs.List.Retain.{IsFiltered}
use Rattle.std.specs.List.Sorted.{IsStrictlySortedBy}
use Rattle.std.specs.Map.{keys_of}
use Rattle.std.specs.Prelude.{vec_capacity, vec_len}
use Rattle.bptree_map.proofs.RetainLemmas.{AsksOn}
use Rattle.bptree_set.proofs.set.BPlusTreeSet.retain.Given as goal

abbrev pub invariant-keys : goal.invariant-keys
invariant-keys g l = record {
  callable : goal.F-IsAlwaysCallable g l.f;
  sorted : IsStrictlySortedBy g.K.Ord.cmp (keys_of l.kept.items ++ l.keys);
  asked : AsksOn (IsFiltered (CalledAt g.F.FnMut)) l.fn.f l.fn.self l.f (keys_of l.kept.items) l.keys;
  room : vec_len l.kept + length l.keys ≤ vec_capacity l.kept;
  capacity : vec_capacity l.kept ≡ length l.fn.self;
}

abbrev pub decreases-keys : goal.decreases-keys
decreases-keys g l = length l.keys

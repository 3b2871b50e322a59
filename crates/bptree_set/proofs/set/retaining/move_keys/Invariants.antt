use Rattle.std.proofs.Common.{◌≡◌, ◌+◌, ◌≤◌, ◌++◌, length}
use Rattle.std.specs.Map.{keys_of}
use Rattle.std.specs.Prelude.{vec_capacity, vec_len}
use Rattle.std.specs.Vec.Iter.{into_iter_items}
use Rattle.bptree_set.proofs.set.retaining.move_keys.Given as goal

abbrev pub invariant-pairs : goal.invariant-pairs
invariant-pairs g l = record {
  moved : l.keys.items ++ keys_of (into_iter_items l.rest) ≡ keys_of l.fn.pairs.items;
  room : vec_len l.keys + length (into_iter_items l.rest) ≤ vec_capacity l.keys;
}

abbrev pub decreases-pairs : goal.decreases-pairs
decreases-pairs g l = length (into_iter_items l.rest)

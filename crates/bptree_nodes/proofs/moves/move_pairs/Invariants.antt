use Rattle.std.proofs.Common.{◌≡◌, ◌≤◌, ◌+◌, ◌-◌, ◌++◌, length, vec_len, vec_capacity}
use Rattle.std.specs.List.{zip}
use Rattle.std.specs.Vec.Iter.{into_iter_items, into_iter_len}
use Rattle.bptree_nodes.proofs.moves.move_pairs.Given as goal

abbrev pub invariant-pairs : goal.invariant-pairs
invariant-pairs g l = record {
  moved : into_iter_items l.fn.pairs ≡ zip l.first.items l.second.items ++ into_iter_items l.rest;
  lengths : vec_len l.second ≡ vec_len l.first;
  within : vec_len l.first ≤ l.count;
  left : vec_len l.first + into_iter_len l.rest ≡ into_iter_len l.fn.pairs;
  counted : into_iter_len l.rest ≡ length (into_iter_items l.rest);
  capacity : vec_capacity l.first ≡ vec_capacity l.fn.keys;
  value_capacity : vec_capacity l.second ≡ vec_capacity l.fn.values;
}

abbrev pub decreases-pairs : goal.decreases-pairs
decreases-pairs g l = l.count - vec_len l.first

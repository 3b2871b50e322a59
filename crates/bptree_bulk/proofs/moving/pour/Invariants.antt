use Rattle.std.proofs.Common.{◌≡◌, ◌+◌, ◌≤◌, ◌++◌, length, drop}
use Rattle.std.specs.Prelude.{vec_capacity, vec_len}
use Rattle.std.specs.Vec.Iter.{into_iter_items, into_iter_len}
use Rattle.bptree_bulk.specs.Moving.{poured}
use Rattle.bptree_bulk.proofs.moving.pour.Given as goal

abbrev pub invariant-leaves : goal.invariant-leaves
invariant-leaves g l = record {
  counted : into_iter_len l.leaves ≡ length (into_iter_items l.leaves);
  some : l.left ≤ length (into_iter_items l.leaves);
  moved : l.pairs.items ++ poured l.left (into_iter_items l.leaves) ≡ l.fn.pairs.items ++ poured l.fn.count (into_iter_items l.fn.leaves);
  rest : drop l.left (into_iter_items l.leaves) ≡ drop l.fn.count (into_iter_items l.fn.leaves);
  room : vec_len l.pairs + length (poured l.left (into_iter_items l.leaves)) ≤ vec_capacity l.pairs;
}

abbrev pub decreases-leaves : goal.decreases-leaves
decreases-leaves g l = l.left

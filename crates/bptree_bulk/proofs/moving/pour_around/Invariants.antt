use Rattle.std.proofs.Common.{◌≡◌, ◌+◌, ◌≤◌, ◌++◌, length, drop}
use Rattle.std.specs.Prelude.{vec_capacity, vec_len}
use Rattle.std.specs.Vec.Iter.{into_iter_items, into_iter_len}
use Rattle.bptree_bulk.specs.Moving.{poured_around}
use Rattle.bptree_bulk.proofs.moving.pour_around.Given as goal

abbrev pub invariant-leaves : goal.invariant-leaves
invariant-leaves g l = record {
  counted : into_iter_len l.leaves ≡ length (into_iter_items l.leaves);
  some : l.left ≤ length (into_iter_items l.leaves);
  order : l.before ≤ l.behind;
  moved : l.pairs.items ++ poured_around l.before l.behind l.left (into_iter_items l.leaves) ≡ l.fn.pairs.items ++ poured_around l.fn.before l.fn.behind l.fn.count (into_iter_items l.fn.leaves);
  rest : drop l.left (into_iter_items l.leaves) ≡ drop l.fn.count (into_iter_items l.fn.leaves);
  room : vec_len l.pairs + length (poured_around l.before l.behind l.left (into_iter_items l.leaves)) ≤ vec_capacity l.pairs;
}

abbrev pub decreases-leaves : goal.decreases-leaves
decreases-leaves g l = l.left

use Rattle.std.proofs.Common.{◌≡◌, ◌+◌, ◌≤◌, ◌++◌, length, take, drop}
use Rattle.std.specs.Prelude.{vec_capacity, vec_len}
use Rattle.std.specs.Vec.Iter.{into_iter_items, into_iter_len}
use Rattle.bptree_bulk.proofs.moving.pass.Given as goal

abbrev pub invariant-items : goal.invariant-items
invariant-items g l = record {
  counted : into_iter_len l.items ≡ length (into_iter_items l.items);
  some : l.left ≤ length (into_iter_items l.items);
  moved : l.to.items ++ take l.left (into_iter_items l.items) ≡ l.fn.to.items ++ take l.fn.count (into_iter_items l.fn.items);
  rest : drop l.left (into_iter_items l.items) ≡ drop l.fn.count (into_iter_items l.fn.items);
  len : vec_len l.to + l.left ≡ vec_len l.fn.to + l.fn.count;
  capacity : vec_capacity l.to ≡ vec_capacity l.fn.to;
}

abbrev pub decreases-items : goal.decreases-items
decreases-items g l = l.left

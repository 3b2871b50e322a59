use Rattle.std.proofs.Common.{◌≡◌, ◌+◌, ◌++◌, length}
use Rattle.std.specs.Prelude.{vec_capacity, vec_len}
use Rattle.bptree_bulk.proofs.moving.pour_leaf.Given as goal

abbrev pub invariant-items : goal.invariant-items
invariant-items g l = record {
  moved : l.pairs.items ++ l.items ≡ l.fn.pairs.items ++ l.fn.leaf.value.pairs;
  len : vec_len l.pairs + length l.items ≡ vec_len l.fn.pairs + length l.fn.leaf.value.pairs;
  capacity : vec_capacity l.pairs ≡ vec_capacity l.fn.pairs;
}

abbrev pub decreases-items : goal.decreases-items
decreases-items g l = length l.items

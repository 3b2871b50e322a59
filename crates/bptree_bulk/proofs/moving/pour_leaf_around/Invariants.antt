use Rattle.std.proofs.Common.{◌≡◌, ◌+◌, ◌≤◌, ◌++◌, length}
use Rattle.std.specs.Prelude.{vec_capacity, vec_len}
use Rattle.bptree_bulk.specs.Gap.{without_part}
use Rattle.bptree_bulk.proofs.moving.pour_leaf_around.Given as goal

abbrev pub invariant-items : goal.invariant-items
invariant-items g l = record {
  order : l.before ≤ l.behind;
  moved : l.pairs.items ++ without_part l.before l.behind l.items ≡ l.fn.pairs.items ++ without_part l.fn.before l.fn.behind l.fn.leaf.value.pairs;
  len : vec_len l.pairs + length (without_part l.before l.behind l.items) ≡ vec_len l.fn.pairs + length (without_part l.fn.before l.fn.behind l.fn.leaf.value.pairs);
  capacity : vec_capacity l.pairs ≡ vec_capacity l.fn.pairs;
}

abbrev pub decreases-items : goal.decreases-items
decreases-items g l = length l.items

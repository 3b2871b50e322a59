use Rattle.std.proofs.Common.{◌≡◌, ◌+◌, ◌≤◌, ◌++◌, reverse, vec_len, vec_capacity}
use Rattle.bptree_nodes.proofs.moves.move_back.Given as goal

abbrev pub invariant-back : goal.invariant-back
invariant-back g l = record {
  parts : l.from.items ++ reverse l.to.items ≡ l.fn.from.items ++ reverse l.fn.to.items;
  above : l.at ≤ vec_len l.from;
  lengths : vec_len l.from + vec_len l.to ≡ vec_len l.fn.from + vec_len l.fn.to;
  capacity : vec_capacity l.from ≡ vec_capacity l.fn.from;
  to_capacity : vec_capacity l.to ≡ vec_capacity l.fn.to;
}

abbrev pub decreases-back : goal.decreases-back
decreases-back g l = vec_len l.from

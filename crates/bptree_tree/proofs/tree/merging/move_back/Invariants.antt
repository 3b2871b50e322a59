-- The last pairs have moved, the greatest first.
use Rattle.std.proofs.Common.{◌+◌, ◌≡◌, List, length}
use Rattle.std.specs.Prelude.{vec_capacity, vec_len}
use Rattle.bptree_tree.proofs.LastTaken.{AreTaken}
use Rattle.bptree_tree.proofs.tree.merging.move_back.Given as goal

abbrev pub invariant-pairs : goal.invariant-pairs
invariant-pairs g l = record {
  taken : List (g.row.S-K.Denot × g.row.S-V.Denot);
  are : AreTaken l.fn.rest l.rest taken (length l.fn.rest) (length l.rest) l.fn.pairs.items l.pairs.items;
  len : vec_len l.pairs + length l.rest ≡ vec_len l.fn.pairs + length l.fn.rest;
  capacity : vec_capacity l.pairs ≡ vec_capacity l.fn.pairs;
}

abbrev pub decreases-pairs : goal.decreases-pairs
decreases-pairs g l = length l.rest

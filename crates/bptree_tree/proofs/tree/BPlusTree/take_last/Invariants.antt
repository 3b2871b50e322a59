-- The last pairs were removed, the greatest first.
use Rattle.std.proofs.Common.{◌+◌, ◌≤◌, List}
use Rattle.std.specs.Prelude.{vec_capacity, vec_len}
use Rattle.bptree_tree.proofs.LastTaken.{AreTaken}
use Rattle.bptree_tree.proofs.tree.BPlusTree.take_last.Given as goal

abbrev pub invariant-pairs : goal.invariant-pairs
invariant-pairs g l = record {
  taken : List (g.row.S-K.Denot × g.row.S-V.Denot);
  are : AreTaken l.fn.self.contents l.self.contents taken l.fn.count l.left l.fn.pairs.items l.pairs.items;
  room : vec_len l.pairs + l.left ≤ vec_capacity l.pairs;
}

abbrev pub decreases-pairs : goal.decreases-pairs
decreases-pairs g l = l.left

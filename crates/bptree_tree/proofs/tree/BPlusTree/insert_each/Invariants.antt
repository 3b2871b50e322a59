-- Some of the last pairs were put, the last one first, and can be taken back.
use Rattle.std.proofs.Common.{◌≡◌, ◌+◌, ◌≤◌, ◌++◌, List, length, reverse}
use Rattle.std.specs.Prelude.{vec_capacity, vec_len}
use Rattle.bptree_bulk.specs.Weave.{put_all, put_pair}
use Rattle.bptree_tree.specs.Undoing.{CanUndoAll}
use Rattle.bptree_tree.proofs.tree.BPlusTree.insert_each.Given as goal

abbrev pub invariant-pairs : goal.invariant-pairs
invariant-pairs g l = record {
  put : List (g.row.S-K.Denot × g.row.S-V.Denot);
  all : reverse l.fn.pairs.items ≡ put ++ reverse l.pairs.items;
  contents : l.self.contents ≡ put_all (put_pair g.S.K.Ord.cmp) l.fn.self.contents put;
  noted : (moved : List (g.row.S-K.Denot × g.row.S-V.Denot)) × CanUndoAll g.S.K.Ord.cmp l.undo.items moved l.fn.self.contents l.self.contents;
  room : vec_len l.pairs + length l.undo.items ≤ vec_capacity l.undo;
  back : vec_len l.pairs + length l.undo.items ≤ vec_capacity l.pairs;
}

abbrev pub decreases-pairs : goal.decreases-pairs
decreases-pairs g l = vec_len l.pairs

-- The first pairs were put, and are noted.
use Rattle.std.proofs.Common.{◌≡◌, ◌≤◌, ◌++◌, List, length}
use Rattle.std.specs.Prelude.{vec_capacity}
use Rattle.bptree_bulk.specs.Weave.{put_all, put_pair}
use Rattle.bptree_tree.specs.Undoing.{CanUndoAll}
use Rattle.bptree_tree.proofs.tree.BPlusTree.put_each.Given as goal

abbrev pub invariant-pairs : goal.invariant-pairs
invariant-pairs g l = record {
  moved : List (g.row.S-K.Denot × g.row.S-V.Denot);
  all : l.fn.rest ≡ moved ++ l.rest;
  put : l.self.contents ≡ put_all (put_pair g.S.K.Ord.cmp) l.fn.self.contents moved;
  noted : CanUndoAll g.S.K.Ord.cmp l.undo.items moved l.fn.self.contents l.self.contents;
  len : length l.undo.items ≡ length moved;
  room : length l.fn.rest ≤ vec_capacity l.undo;
}

abbrev pub decreases-pairs : goal.decreases-pairs
decreases-pairs g l = length l.rest

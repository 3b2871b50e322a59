-- Some of the last pairs were taken back, the last one first.
use Rattle.std.proofs.Common.{◌≡◌, ◌+◌, ◌≤◌, ◌++◌, List, length, reverse}
use Rattle.std.specs.Prelude.{vec_capacity, vec_len}
use Rattle.bptree_keys.specs.Contents.{IsAscending}
use Rattle.bptree_tree.specs.Undoing.{CanUndoAll}
use Rattle.bptree_tree.proofs.tree.BPlusTree.take_back.Given as goal

abbrev pub invariant-undo : goal.invariant-undo
invariant-undo g l = record {
  room : vec_len l.pairs + length l.undo.items ≤ vec_capacity l.pairs;
  some : (moved : List (g.row.S-K.Denot × g.row.S-V.Denot)) × (m : List (g.row.S-K.Denot × g.row.S-V.Denot)) × IsAscending g.S.K.Ord.cmp m × CanUndoAll g.S.K.Ord.cmp l.undo.items moved m l.self.contents;
  each : (moved m : List (g.row.S-K.Denot × g.row.S-V.Denot)) → IsAscending g.S.K.Ord.cmp m → CanUndoAll g.S.K.Ord.cmp l.fn.undo.items moved m l.fn.self.contents
      → (firsts : List (g.row.S-K.Denot × g.row.S-V.Denot)) × (lasts : List (g.row.S-K.Denot × g.row.S-V.Denot)) × (moved ≡ firsts ++ lasts) × CanUndoAll g.S.K.Ord.cmp l.undo.items firsts m l.self.contents × (l.pairs.items ≡ l.fn.pairs.items ++ reverse lasts);
}

abbrev pub decreases-undo : goal.decreases-undo
decreases-undo g l = length l.undo.items

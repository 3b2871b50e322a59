use Rattle.std.proofs.Common.{◌≡◌, ◌≤◌, ℕ, List, [], length}
use Rattle.std.specs.Io.KnownBytes.{Appends, Consumes}
use Rattle.bptree_commands.specs.ReplyLists.{outcomes, pairs_after_all}
use Rattle.bptree_commands.specs.Clipped.{clipped_after, clipped_rest}
use Rattle.bptree_commands.proofs.session.serve_pieces.Given as goal

-- The replies to what was read so far were written, and each read returned at least a byte.
abbrev pub invariant-turns : goal.invariant-turns
invariant-turns g l =
    (l.out.held ≡ []) × (l.out.writer ≡ l.initial.out.writer)
    × ((read : List ℕ) × Consumes (g.R.Read.remaining l.initial.reader) (g.R.Read.remaining l.reader) read
    × Appends l.initial.out.written l.out.written (outcomes [] (clipped_after [] read))
    × (l.tree.contents ≡ pairs_after_all [] (clipped_after [] read))
    × (l.line.items ≡ clipped_rest [] read)
    × (l._turn ≤ length read))

use Rattle.std.proofs.Common.{◌≡◌, ℕ, List, ◌++◌, length}
use Rattle.bptree_commands.specs.ReplyLists.{outcomes, pairs_after_all}
use Rattle.bptree_commands.specs.Clipped.{clipped_after, clipped_rest}
use Rattle.bptree_commands.specs.Sent.{Sends}
use Rattle.bptree_commands.proofs.lines.take_lines.Given as goal

-- The replies to the lines that ended so far were sent.
abbrev pub invariant-loop-at : goal.invariant-loop-at
invariant-loop-at g l =
    (done : List ℕ) × (l.bytes ≡ done ++ l.rest)
    × Sends l.initial.out l.out (outcomes l.initial.tree.contents (clipped_after l.initial.line.items done))
    × (l.tree.contents ≡ pairs_after_all l.initial.tree.contents (clipped_after l.initial.line.items done))
    × (l.line.items ≡ clipped_rest l.initial.line.items done)

abbrev pub decreases-loop-at : goal.decreases-loop-at
decreases-loop-at g l = length l.rest

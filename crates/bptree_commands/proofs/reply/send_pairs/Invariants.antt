use Rattle.std.proofs.Common.{◌≡◌, List, ℕ, ◌++◌, length}
use Rattle.bptree_commands.specs.Ends.{seen_from}
use Rattle.bptree_commands.specs.Sent.{Sends}
use Rattle.bptree_commands.proofs.PairLemmas.{items_text}
use Rattle.bptree_commands.proofs.reply.send_pairs.Given as goal

-- The text is the items that were sent, followed by the items that are left.
abbrev pub invariant-loop-key : goal.invariant-loop-key
invariant-loop-key g l =
    (sent : List ℕ) × Sends l.initial.out l.out sent
    × (sent ++ items_text l.is_first (seen_from l.end l.pairs) ≡ items_text l.initial.is_first (seen_from l.end l.fn.pairs))

abbrev pub decreases-loop-key : goal.decreases-loop-key
decreases-loop-key g l = length l.pairs

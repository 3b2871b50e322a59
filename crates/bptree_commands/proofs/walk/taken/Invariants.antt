use Rattle.std.proofs.Common.{◌+◌, ◌≤◌, length, vec_len, vec_capacity}
use Rattle.bptree_commands.specs.Ends.{walked}
use Rattle.bptree_commands.specs.Steps.{IsCopyOf}
use Rattle.bptree_commands.proofs.EndLemmas.{IsWalking}
use Rattle.bptree_commands.proofs.walk.taken.Given as goal

-- The ends so far have their results, and there is room for the results of the others.
abbrev pub invariant-loop-end : goal.invariant-loop-end
invariant-loop-end g l =
    IsWalking (IsCopyOf g.S.K.Ord.cmp) (walked l.fn.word l.fn.pairs) l.left l.pairs l.outcomes.items
    × (vec_len l.outcomes + length l.left ≤ vec_capacity l.outcomes)

abbrev pub decreases-loop-end : goal.decreases-loop-end
decreases-loop-end g l = length l.left

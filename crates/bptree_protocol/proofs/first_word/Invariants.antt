use Rattle.bptree_protocol.proofs.WordLemmas.{NoSpaceBelow}
use Rattle.bptree_protocol.proofs.first_word.Given as goal

-- No byte before the current one is a space.
abbrev pub invariant-loop-i : goal.invariant-loop-i
invariant-loop-i l = NoSpaceBelow l.line l.i

use Rattle.std.proofs.Common.{◌≤◌, ◌-◌}
use Rattle.bptree_heads.proofs.Rests.{AreAlike}
use Rattle.bptree_heads.proofs.head.compare_rests.Given as goal

-- the bytes before the index are the same
abbrev pub invariant-words : goal.invariant-words
invariant-words l = (l.at ≤ l.both) × AreAlike l.at l.bytes l.other

abbrev pub decreases-words : goal.decreases-words
decreases-words l = l.both - l.at

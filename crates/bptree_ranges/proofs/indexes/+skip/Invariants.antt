use Rattle.std.proofs.Common.{◌≡◌, ◌+◌}
use Rattle.bptree_ranges.specs.Indexes.{before_entry}
use Rattle.bptree_ranges.proofs.indexes.+skip.Given as goal

-- the pairs before the children so far are those that have been passed
abbrev pub invariant-loop-index : goal.invariant-loop-index
invariant-loop-index g l = before_entry (g.S.NodeStore.slots l.fn.store) l.fn.height l.fn.id l.index + l.rest ≡ before_entry (g.S.NodeStore.slots l.fn.store) l.fn.height l.fn.id l.fn.first + l.fn.i

abbrev pub decreases-skip : goal.decreases-skip
decreases-skip g l = l.height

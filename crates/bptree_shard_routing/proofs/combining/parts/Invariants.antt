use Rattle.std.proofs.Common.{List, ◌++◌}
use Rattle.bptree_shard_routing.specs.declared.combining.Part.{Part}
use Rattle.bptree_shard_routing.specs.Lengths.{ArePartsOf}
use Rattle.bptree_shard_routing.proofs.combining.parts.Given as goal

-- If `rest` is the parts of what is left of the page, the parts found so far and `rest` are the
-- parts of the page.
abbrev pub invariant-loop-part : goal.invariant-loop-part
invariant-loop-part l = (rest : List Part) → ArePartsOf l.lengths l.from l.left rest → ArePartsOf l.fn.lengths l.fn.index l.fn.n (l.found.items ++ rest)

abbrev pub decreases-loop-part : goal.decreases-loop-part
decreases-loop-part l = l.left

use Rattle.std.proofs.Common.{map, take}
use Rattle.std.specs.List.Sorted.{IsStrictlySortedBy}
use Rattle.bptree_arguments.specs.Groups.{IsGroupSummary}
use Rattle.bptree_arguments.proofs.group.GroupCountArgument.from_leaf.Given as goal

abbrev pub invariant-loop-i : goal.invariant-loop-i
invariant-loop-i g l = IsStrictlySortedBy g.K.Ord.cmp l.keys → IsGroupSummary g.G.Ord.cmp l.summary (map g.G.FromRef.group_of (take l.i l.keys))

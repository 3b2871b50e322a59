use Rattle.std.proofs.Common.{◌≡◌, ◌+◌, List, map, take}
use Rattle.std.specs.List.{AllZip}
use Rattle.bptree_keys.specs.Pieces.{ArePieces, flatten}
use Rattle.bptree_arguments.specs.Groups.{IsGroupSummary, group_size}
use Rattle.bptree_arguments.proofs.group.search.GroupCountSearchArgument.locate_in_inner.Given as goal

abbrev pub invariant-loop-i : goal.invariant-loop-i
invariant-loop-i g l = (pieces : List (List g.row.K.Denot)) → ArePieces g.K.Ord.cmp pieces → AllZip (λ a keys. IsGroupSummary g.G.Ord.cmp a (map g.G.FromRef.group_of keys)) l.arguments pieces → l.rest + group_size g.G.Ord.cmp l.group (map g.G.FromRef.group_of (flatten (take l.i pieces))) ≡ l.offset

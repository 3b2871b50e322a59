use Rattle.std.proofs.Common.{◌≡◌, List, None, map, option_map, take}
use Rattle.std.specs.List.{AllZip}
use Rattle.bptree_keys.specs.Pieces.{ArePieces, flatten}
use Rattle.bptree_arguments.specs.GroupSums.{summary_of_ends, combined_all}
use Rattle.bptree_arguments.specs.Groups.{IsGroupSummary}
use Rattle.bptree_arguments.proofs.GroupEndsLemmas.{AreKnownEnds}
use Rattle.bptree_arguments.proofs.group.GroupCountArgument.from_inner.Given as goal

abbrev pub invariant-loop-argument : goal.invariant-loop-argument
invariant-loop-argument g l = record {
  known : (pieces : List (List g.row.K.Denot)) → ArePieces g.K.Ord.cmp pieces → AllZip (λ a keys. IsGroupSummary g.G.Ord.cmp a (map g.G.FromRef.group_of keys)) l.arguments pieces → AreKnownEnds g.G.Ord.cmp (map g.G.FromRef.group_of (flatten (take l.argument-index pieces))) l.whole;
  reported : option_map (λ ends. summary_of_ends ends) l.whole ≡ combined_all g.G.Ord.cmp (take l.argument-index l.arguments);
  first : l.argument-index ≡ 0 → l.whole ≡ None;
}

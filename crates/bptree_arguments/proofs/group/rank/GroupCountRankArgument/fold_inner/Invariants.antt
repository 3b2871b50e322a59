use Rattle.std.proofs.Common.{◌≡◌, ◌-◌, ◌^◌, ◌<◌, min, List, drop, map}
use Rattle.std.specs.List.{AllZip}
use Rattle.bptree_keys.specs.Pieces.{flatten}
use Rattle.bptree_arguments.specs.Groups.{IsGroupSummary, group_size}
use Rattle.bptree_arguments.proofs.GroupSumLemmas.{Counts}
use Rattle.bptree_arguments.proofs.group.rank.GroupCountRankArgument.fold_inner.Given as goal

abbrev pub invariant-loop-i : goal.invariant-loop-i
invariant-loop-i g l = record {
  same : l.rank ≡ l.fn.rank;
  counted : (pieces : List (List g.row.K.Denot)) → AllZip (λ a keys. IsGroupSummary g.G.Ord.cmp a (map g.G.FromRef.group_of keys)) l.arguments pieces → l.count ≡ min (group_size g.G.Ord.cmp l.group (map g.G.FromRef.group_of (flatten (drop l.i pieces)))) (2 ^ 64 - 1);
  fits : l.count < 2 ^ 64;
  over : Counts g.G.Ord.cmp l.group l.arguments l.i l.count;
}

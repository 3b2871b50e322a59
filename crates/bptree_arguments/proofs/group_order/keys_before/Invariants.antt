use Rattle.std.proofs.Common.{◌≡◌, ◌-◌, ◌≤◌, length, map, take, drop, true, false}
use Rattle.std.specs.List.{AllByRecursion}
use Rattle.std.specs.List.Sorted.{IsStrictlySortedBy}
use Rattle.bptree_arguments.specs.GroupResults.{is_before}
use Rattle.bptree_keys.specs.Ends.{is_back}
use Rattle.bptree_arguments.proofs.group_order.keys_before.Given as goal

abbrev pub invariant-loop-low : goal.invariant-loop-low
invariant-loop-low g l = record {
  order : l.low ≤ l.high;
  within : l.high ≤ length l.keys;
  before : IsStrictlySortedBy g.K.Ord.cmp l.keys → AllByRecursion (λ x. is_before (is_back l.end) (g.G.Ord.cmp x l.group) ≡ true) (take l.low (map g.G.FromRef.group_of l.keys));
  from_there : IsStrictlySortedBy g.K.Ord.cmp l.keys → AllByRecursion (λ x. is_before (is_back l.end) (g.G.Ord.cmp x l.group) ≡ false) (drop l.high (map g.G.FromRef.group_of l.keys));
}

abbrev pub decreases-loop-low : goal.decreases-loop-low
decreases-loop-low g l = l.high - l.low

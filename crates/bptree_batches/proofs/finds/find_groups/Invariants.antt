use Rattle.std.proofs.Common.{◌≡◌, ◌-◌, ◌≤◌, length, take, map}
use Rattle.std.specs.Option.{option_copied}
use Rattle.bptree_keys.specs.Contents.{value}
use Rattle.bptree_invariant.specs.Shape.{pairs_at}
use Rattle.bptree_batches.specs.Each.{result_each}
use Rattle.bptree_batches.proofs.finds.find_groups.Given as goal

abbrev pub invariant-groups : goal.invariant-groups
invariant-groups g l = record {
  within : l.at ≤ length l.keys;
  found : map option_copied l.found ≡ result_each (λ k old. value g.S.K.Ord.cmp (pairs_at (g.S.NodeStore.slots l.store) l.height l.root) k) (take l.at l.keys) (map option_copied l.fn.found);
}

abbrev pub decreases-groups : goal.decreases-groups
decreases-groups g l = length l.keys - l.at

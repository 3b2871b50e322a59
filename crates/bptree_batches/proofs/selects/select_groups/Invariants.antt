use Rattle.std.proofs.Common.{◌≡◌, ◌-◌, ◌≤◌, length, map, take, slice_get}
use Rattle.std.specs.Map.Iter.{deref_pair}
use Rattle.std.specs.Option.{option_map}
use Rattle.bptree_invariant.specs.Shape.{pairs_at}
use Rattle.bptree_batches.specs.Each.{result_each}
use Rattle.bptree_batches.proofs.selects.select_groups.Given as goal

abbrev pub invariant-groups : goal.invariant-groups
invariant-groups g l = record {
  within : l.at ≤ length l.indexes;
  found : map (option_map deref_pair) l.found ≡ result_each (λ i old. slice_get (pairs_at (g.S.NodeStore.slots l.store) l.height l.root) i) (take l.at l.indexes) (map (option_map deref_pair) l.fn.found);
}

abbrev pub decreases-groups : goal.decreases-groups
decreases-groups g l = length l.indexes - l.at

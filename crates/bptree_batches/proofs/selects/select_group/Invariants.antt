use Rattle.std.proofs.Common.{◌≡◌, ◌-◌, ◌≤◌, length, map, take, slice_get}
use Rattle.std.specs.Map.Iter.{deref_pair}
use Rattle.std.specs.Option.{option_map}
use Rattle.bptree_invariant.specs.Shape.{pairs_at}
use Rattle.bptree_batches.specs.Each.{result_each}
use Rattle.bptree_batches.proofs.selects.select_group.Given as goal

abbrev pub invariant-indexes : goal.invariant-indexes
invariant-indexes g l = record {
  within : l.at ≤ length l.indexes;
  found : map (option_map deref_pair) l.found ≡ result_each (λ i old. slice_get (pairs_at (g.S.NodeStore.slots l.store) l.height l.fn.root) i) (take l.at l.indexes) (map (option_map deref_pair) l.fn.found);
}

abbrev pub decreases-indexes : goal.decreases-indexes
decreases-indexes g l = length l.indexes - l.at

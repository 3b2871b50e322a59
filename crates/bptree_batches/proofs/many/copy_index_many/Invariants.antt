use Rattle.std.proofs.Common.{◌≡◌, ◌-◌, ◌≤◌, length, slice_get, take, if◌then◌else◌}
use Rattle.std.specs.Option.{is_some}
use Rattle.bptree_batches.specs.Each.{result_each, keys_at_each, values_at_each}
use Rattle.bptree_batches.proofs.many.copy_index_many.Given as goal

abbrev pub invariant-groups : goal.invariant-groups
invariant-groups g l = record {
  within : l.at ≤ length l.indexes;
  keys : l.keys ≡ keys_at_each l.tree.contents (take l.at l.indexes) l.fn.keys;
  values : l.values ≡ values_at_each l.tree.contents (take l.at l.indexes) l.fn.values;
  marks : l.marks ≡ result_each (λ i old. if is_some (slice_get l.tree.contents i) then l.hit else l.miss) (take l.at l.indexes) l.fn.marks;
}

abbrev pub decreases-groups : goal.decreases-groups
decreases-groups g l = length l.indexes - l.at

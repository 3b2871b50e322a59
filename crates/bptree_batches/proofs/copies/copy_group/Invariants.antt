use Rattle.std.proofs.Common.{◌≡◌, ◌-◌, ◌≤◌, length, take, if◌then◌else◌}
use Rattle.bptree_keys.specs.Contents.{has}
use Rattle.bptree_invariant.specs.Shape.{pairs_at}
use Rattle.bptree_batches.specs.Each.{result_each, read_each}
use Rattle.bptree_batches.proofs.copies.copy_group.Given as goal

abbrev pub invariant-keys : goal.invariant-keys
invariant-keys g l = record {
  within : l.at ≤ length l.keys;
  values : l.values ≡ read_each g.S.K.Ord.cmp (pairs_at (g.S.NodeStore.slots l.store) l.height l.fn.root) (take l.at l.keys) l.fn.values;
  marks : l.marks ≡ result_each (λ k old. if has g.S.K.Ord.cmp (pairs_at (g.S.NodeStore.slots l.store) l.height l.fn.root) k then l.fn.hit else l.fn.miss) (take l.at l.keys) l.fn.marks;
}

abbrev pub decreases-keys : goal.decreases-keys
decreases-keys g l = length l.keys - l.at

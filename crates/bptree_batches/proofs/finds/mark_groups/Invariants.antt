use Rattle.std.proofs.Common.{◌≡◌, ◌-◌, ◌≤◌, length, take, if◌then◌else◌}
use Rattle.bptree_keys.specs.Contents.{has}
use Rattle.bptree_invariant.specs.Shape.{pairs_at}
use Rattle.bptree_batches.specs.Each.{result_each}
use Rattle.bptree_batches.proofs.finds.mark_groups.Given as goal

abbrev pub invariant-groups : goal.invariant-groups
invariant-groups g l = record {
  within : l.at ≤ length l.keys;
  marks : l.marks ≡ result_each (λ k old. if has g.S.K.Ord.cmp (pairs_at (g.S.NodeStore.slots l.store) l.height l.root) k then l.hit else l.miss) (take l.at l.keys) l.fn.marks;
}

abbrev pub decreases-groups : goal.decreases-groups
decreases-groups g l = length l.keys - l.at

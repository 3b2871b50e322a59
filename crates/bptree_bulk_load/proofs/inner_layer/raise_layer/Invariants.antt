use Rattle.std.proofs.Common.{◌≡◌, ℕ, ◌+◌, ◌≤◌, ◌<◌, ◌^◌, List, length}
use Rattle.std.specs.Vec.Iter.{into_iter_items}
use Rattle.bptree_keys.specs.Contents.{IsAscending}
use Rattle.bptree_bulk_load.specs.Layer.{with_leaves, IsLayer, IsRising}
use Rattle.bptree_nodes.specs.Leaf.{Leaf}
use Rattle.bptree_nodes.specs.Slot.{Slot}
use Rattle.bptree_bulk_load.specs.Steps.{HasLeft}
use Rattle.bptree_bulk_load.proofs.inner_layer.raise_layer.Given as goal

abbrev pub invariant-nodes : goal.invariant-nodes
invariant-nodes g l = record {
  has_left : HasLeft l.trees l.left;
  several : 1 < l.left;
  enough : 0 < length l.above.items → 17 ≤ l.left;
  fewer : length l.above.items + l.left ≤ length l.fn.layer.items;
  leaves : (g.S.NodeStore.slots l.store).leaf ≡ (g.S.NodeStore.slots l.fn.store).leaf;
  rising : (leaves : ℕ → Slot (Leaf g.row.S-K.Denot g.row.S-V.Denot)) (pairs : List (g.row.S-K.Denot × g.row.S-V.Denot)) → IsAscending g.S.K.Ord.cmp pairs → length pairs < 2 ^ 64 → IsLayer g.S.K.Ord.cmp g.S.Argument.Argument.is_summary (with_leaves (g.S.NodeStore.slots l.fn.store) leaves) l.fn.height l.fn.layer.items pairs
      → IsRising g.S.K.Ord.cmp g.S.Argument.Argument.is_summary (with_leaves (g.S.NodeStore.slots l.store) leaves) 16 l.fn.height l.above.items (into_iter_items l.trees) pairs;
}

abbrev pub decreases-nodes : goal.decreases-nodes
decreases-nodes g l = l.left

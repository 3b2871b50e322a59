use Rattle.std.proofs.Common.{◌≡◌, ℕ, ◌+◌, ◌<◌, ◌^◌, List, length}
use Rattle.bptree_keys.specs.Contents.{IsAscending}
use Rattle.bptree_nodes.specs.Leaf.{Leaf}
use Rattle.bptree_nodes.specs.Slot.{Slot}
use Rattle.bptree_bulk_load.specs.Layer.{with_leaves, IsLayer}
use Rattle.bptree_bulk_load.proofs.building.raise_all.Given as goal

abbrev pub invariant-layers : goal.invariant-layers
invariant-layers g l = record {
  some : 0 < length l.layer.items;
  low : l.height + length l.layer.items < 2 ^ 64;
  leaves : (g.S.NodeStore.slots l.store).leaf ≡ (g.S.NodeStore.slots l.fn.store).leaf;
  layer : (leaves : ℕ → Slot (Leaf g.row.S-K.Denot g.row.S-V.Denot)) (pairs : List (g.row.S-K.Denot × g.row.S-V.Denot)) → IsAscending g.S.K.Ord.cmp pairs → length pairs < 2 ^ 64 → IsLayer g.S.K.Ord.cmp g.S.Argument.Argument.is_summary (with_leaves (g.S.NodeStore.slots l.fn.store) leaves) 0 l.fn.trees.items pairs
      → IsLayer g.S.K.Ord.cmp g.S.Argument.Argument.is_summary (with_leaves (g.S.NodeStore.slots l.store) leaves) l.height l.layer.items pairs;
}

abbrev pub decreases-layers : goal.decreases-layers
decreases-layers g l = length l.layer.items

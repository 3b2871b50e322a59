use Rattle.std.proofs.Common.{◌≡◌, ◌≤◌, ◌-◌, ◌++◌, List, drop, length}
use Rattle.std.specs.Vec.Iter.{into_iter_items, into_iter_len}
use Rattle.bptree_bulk_load.specs.Layer.{with_leaves}
use Rattle.bptree_bulk_load.specs.Rooms.{joined, parts_of, IsFrame, IsPlanting}
use Rattle.bptree_bulk_load.specs.declared.subtree.Subtree.{Subtree}
use Rattle.bptree_bulk_load.proofs.planting.plant_leaves.Given as goal

abbrev pub invariant-leaves : goal.invariant-leaves
invariant-leaves g l = record {
  within : l.i ≤ length l.fn.ids;
  counted : into_iter_len l.boxes ≡ length (into_iter_items l.boxes);
  inner : (g.S.NodeStore.slots l.store).inner ≡ (g.S.NodeStore.slots l.fn.store).inner;
  planting : (frame : IsFrame g.S.K.Ord.cmp g.S.Argument.Argument.is_summary (g.S.NodeStore.slots l.fn.store) l.fn.ids l.fn._built (parts_of l.fn.leaves.items)) → (done : List (Subtree g.row.S-K.Denot g.row.S-Argument.Denot)) × (trees : List (Subtree g.row.S-K.Denot g.row.S-Argument.Denot)) × (frame.trees ≡ done ++ trees)
      × IsPlanting g.S.K.Ord.cmp g.S.Argument.Argument.is_summary (with_leaves frame.base (g.S.NodeStore.slots l.store).leaf) frame.least done trees (drop l.i l.fn.ids) l.prev (parts_of (into_iter_items l.boxes)) (joined (parts_of l.fn.leaves.items));
}

abbrev pub decreases-leaves : goal.decreases-leaves
decreases-leaves g l = length l.fn.ids - l.i

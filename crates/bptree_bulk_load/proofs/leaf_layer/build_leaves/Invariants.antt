use Rattle.std.proofs.Common.{◌≤◌, ◌<◌, length}
use Rattle.std.specs.Vec.Iter.{into_iter_items}
use Rattle.bptree_bulk_load.specs.Layer.{IsSpreading}
use Rattle.bptree_bulk_load.specs.Steps.{HasLeft}
use Rattle.bptree_bulk_load.proofs.leaf_layer.build_leaves.Given as goal

abbrev pub invariant-leaves : goal.invariant-leaves
invariant-leaves g l = record {
  has_left : HasLeft l.items l.left;
  some : 0 < l.left;
  enough : 0 < length l.layer.items → 16 ≤ l.left;
  spreading : IsSpreading g.S.K.Ord.cmp g.S.Argument.Argument.is_summary (g.S.NodeStore.slots l.store) 16 l.layer.items l.id l.prev (into_iter_items l.items) l.fn.pairs.items;
}

abbrev pub decreases-leaves : goal.decreases-leaves
decreases-leaves g l = l.left

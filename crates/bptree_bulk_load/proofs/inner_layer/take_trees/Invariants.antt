use Rattle.std.proofs.Common.{◌≡◌, ◌≤◌, ◌<◌, ◌-◌, length}
use Rattle.std.specs.Vec.Iter.{into_iter_items, into_iter_len}
use Rattle.bptree_bulk_load.specs.Steps.{IsLayerAbove}
use Rattle.bptree_bulk_load.proofs.inner_layer.take_trees.Given as goal

abbrev pub invariant-children : goal.invariant-children
invariant-children g l = record {
  above : IsLayerAbove (into_iter_items l.fn.trees) (length l.node.children) l.node l.first (into_iter_items l.trees);
  some : 0 < length l.node.children;
  within : length l.node.children ≤ l.count;
  counted : into_iter_len l.trees ≡ length (into_iter_items l.trees);
}

abbrev pub decreases-children : goal.decreases-children
decreases-children g l = l.count - length l.node.children

use Rattle.std.proofs.Common.{◌≡◌, ◌<◌, ◌+◌, length}
use Rattle.bptree_nodes.specs.Inner.{Fits}
use Rattle.bptree_examples.proofs.drawing.tree.+add_subtree.Given as goal

-- The height decreases by one with each call.
abbrev pub decreases-add_subtree : goal.decreases-add_subtree
decreases-add_subtree g l = l.height

abbrev pub invariant-loop-index : goal.invariant-loop-index
invariant-loop-index g l = record {
  end : l.index-end ≡ length l.node.keys + 1;
  fits : Fits l.node;
  some : 0 < length l.node.keys;
  height : l.height ≡ l.fn.height;
  below : 0 < l.height;
}

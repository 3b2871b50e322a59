-- The leaf that a key belongs to in a valid tree, and what it determines of the whole tree.
use Rattle.std.proofs.Common.{◌≡◌, ℕ, false, None, List, sym, ap, ◌∙◌, is_some}
use Rattle.std.specs.declared.cmp.Ordering.{Ordering}
use Rattle.std.specs.Cmp.{IsTotalOrder}
use Rattle.bptree_keys.specs.Contents.{IsAscending, has, value}
use Rattle.bptree_nodes.specs.Inner.{Inner}
use Rattle.bptree_nodes.specs.Leaf.{Leaf}
use Rattle.bptree_nodes.specs.Slot.{Slots, Present}
use Rattle.bptree_keys.specs.declared.node_id.LeafNodeId.{LeafNodeId}
use Rattle.bptree_keys.specs.declared.node_id.NodeId.{NodeId}
use Rattle.bptree_keys.proofs.Equal.{has_where_value}
use Rattle.bptree_invariant.specs.Leaves.{IsLeafFor}
use Rattle.bptree_invariant.specs.Shape.{pairs_at, root_least, IsWellShaped}
use Rattle.bptree_invariant.proofs.Spot.{value_in_leaf, leaf_ascends}
use Rattle.bptree_invariant.proofs.Walk.{tree_ascends}

module _ {K V A : Type 0} {cmp : K → K → Ordering} (total : IsTotalOrder cmp) (is_summary : A → List K → Type 0) (old : Slots (Inner K A) (Leaf K V)) (h : ℕ) (root : NodeId) (k : K) (leaf : LeafNodeId) (node : Leaf K V)
    (shape : IsWellShaped cmp is_summary old h root) (for' : IsLeafFor cmp old h root k leaf) (read : old.leaf leaf.0 ≡ Present node) where
  pub whole_ascends : IsAscending cmp (pairs_at old h root)
  whole_ascends = tree_ascends total old (root_least h) h root None None shape.tree

  pub node_ascends : IsAscending cmp node.pairs
  node_ascends = leaf_ascends total old h root leaf node for'.stored whole_ascends read

  pub value_there : value cmp (pairs_at old h root) k ≡ value cmp node.pairs k
  value_there = value_in_leaf total old h root k leaf node for' read

  -- the key is absent from the tree if it is absent from the leaf
  pub absent_there : has cmp node.pairs k ≡ false → has cmp (pairs_at old h root) k ≡ false
  absent_there absent = sym (has_where_value cmp (pairs_at old h root) k) ∙ (ap is_some value_there ∙ (has_where_value cmp node.pairs k ∙ absent))

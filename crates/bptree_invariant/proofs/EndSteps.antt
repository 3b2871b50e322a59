-- One level of a descent to an end: from a node to its first child or its last.
use Rattle.std.proofs.Common.{◌≡◌, ℕ, ◌+◌, ◌-◌, ◌<◌, length, subst, arith, Some, slice_get}
use Rattle.std.proofs.Common.{Bool, cond}
use Rattle.std.specs.declared.cmp.Ordering.{Ordering}
use Rattle.std.specs.Cmp.{IsTotalOrder}
use Rattle.bptree_nodes.specs.Inner.{Inner}
use Rattle.bptree_nodes.specs.Leaf.{Leaf}
use Rattle.bptree_nodes.specs.Slot.{Slots, Present}
use Rattle.bptree_keys.specs.declared.node_id.InnerNodeId.{InnerNodeId}
use Rattle.bptree_keys.specs.declared.node_id.LeafNodeId.{LeafNodeId}
use Rattle.bptree_keys.specs.declared.node_id.NodeId.{NodeId}
use Rattle.bptree_keys.specs.declared.node_id.NodeId.TheVariants as kind
use Rattle.bptree_invariant.specs.Leaves.{IsStored, IsEndLeaf}
use Rattle.bptree_invariant.proofs.Down.{child_is_stored, inner_present, node_children}
use Rattle.bptree_invariant.proofs.Ends.{end_above, end_child, end_within}

module _ {K V A : Type 0} {cmp : K → K → Ordering} (total : IsTotalOrder cmp) (slots : Slots (Inner K A) (Leaf K V)) (is_last : Bool) (h : ℕ) (root : NodeId) (id : InnerNodeId) (node : Inner K A) (stored : IsStored cmp slots h root) (is : root ≡ kind.Inner id)
    (here : slots.inner id.0 ≡ Present node) (len index : ℕ) (counted : len ≡ length node.keys) (at : index ≡ cond is_last (len + 1 - 1) 0) where
  is_stored_here : IsStored cmp slots h (kind.Inner id)
  is_stored_here = subst (IsStored cmp slots h) is stored

  long : length node.children ≡ length node.keys + 1
  long = node_children total slots h id node is_stored_here here

  at_end : index ≡ cond is_last (length node.children - 1) 0
  at_end = end_child is_last (length node.keys) (length node.children) len index long counted at

  pub end_inside : index < length node.children
  end_inside = end_within is_last (length node.children) index (omega (arith, long)) at_end

  pub end_lower : 0 < h
  end_lower = (inner_present total slots h id is_stored_here).1

  pub end_down : (child : NodeId) → slice_get node.children index ≡ Some child → IsStored cmp slots (h - 1) child
  end_down child read = child_is_stored total slots h id node is_stored_here here index child end_inside read

  pub end_up : (child : NodeId) (leaf : LeafNodeId) → slice_get node.children index ≡ Some child → IsEndLeaf slots is_last (h - 1) child leaf → IsEndLeaf slots is_last h root leaf
  end_up child leaf read below = rw is (end_above cmp slots is_last h id node index child leaf end_lower here (omega (arith, long)) at_end read below)

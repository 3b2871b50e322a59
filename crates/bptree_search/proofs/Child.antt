-- The child of a tree's top node in which a descent continues.
use Rattle.std.proofs.Common.{◌≡◌, ℕ, ◌-◌, ◌<◌, ◌≤◌, List, length, Some, ap, arith, slice_get}
use Rattle.std.specs.declared.cmp.Ordering.{Ordering}
use Rattle.std.specs.Cmp.{IsTotalOrder}
use Rattle.std.specs.List.Sorted.{IsStrictlySortedBy}
use Rattle.bptree_keys.specs.declared.node_id.InnerNodeId.{InnerNodeId}
use Rattle.bptree_keys.specs.declared.node_id.NodeId.{NodeId}
use Rattle.bptree_keys.specs.declared.node_id.NodeId.TheVariants as kind
use Rattle.bptree_nodes.specs.Inner.{Inner, LeadsToChild}
use Rattle.bptree_nodes.specs.Leaf.{Leaf}
use Rattle.bptree_nodes.specs.Slot.{Slots, Present}
use Rattle.bptree_invariant.specs.Order.{LeadsDown}
use Rattle.bptree_invariant.proofs.Down.{inner_present, node_children, node_keys, node_leads}
use Rattle.bptree_search.specs.ByArgument.{IsSubtree}
use Rattle.bptree_search.proofs.Summed.{child_subtree}

module _ {K V A : Type 0} (cmp : K → K → Ordering) (is_summary : A → List K → Type 0) (slots : Slots (Inner K A) (Leaf K V)) (h : ℕ) (top : NodeId) (id : InnerNodeId) (node : Inner K A) where
  -- the top node is an inner node, which was read
  pub record IsNodeAt : Type 0 where
    pub is : top ≡ kind.Inner id
    pub subtree : IsSubtree cmp is_summary slots h (kind.Inner id)
    pub read : slots.inner id.0 ≡ Present node

  -- the child is that of the top node at an index
  pub record IsChildAt (i : ℕ) (child : NodeId) : Type 0 where
    pub at : IsNodeAt
    pub within : i < length node.children
    pub child_is : slice_get node.children i ≡ Some child

module _ {K V A : Type 0} {cmp : K → K → Ordering} (total : IsTotalOrder cmp) (is_summary : A → List K → Type 0) (slots : Slots (Inner K A) (Leaf K V)) (h : ℕ) (top : NodeId) (id : InnerNodeId) (node : Inner K A) where
  pub node_at : IsSubtree cmp is_summary slots h top → top ≡ kind.Inner id → slots.inner id.0 ≡ Present node → IsNodeAt cmp is_summary slots h top id node
  node_at s is e = record { is = is; subtree = rw is at s; read = e }

  pub separators_ascend : IsNodeAt cmp is_summary slots h top id node → IsStrictlySortedBy cmp node.keys
  separators_ascend at = node_keys total slots h id node at.subtree.stored at.read

  -- a number of separators is the index of a child
  pub border_within : IsSubtree cmp is_summary slots h top → top ≡ kind.Inner id → slots.inner id.0 ≡ Present node → (given : List K) (n : ℕ) → given ≡ node.keys → n ≤ length given → n < length node.children
  border_within s is e given n are few = let at = node_at s is e in omega (arith, few, ap length are, node_children total slots h id node at.subtree.stored at.read)

  pub border_child : IsSubtree cmp is_summary slots h top → top ≡ kind.Inner id → slots.inner id.0 ≡ Present node → (given : List K) (n : ℕ) → given ≡ node.keys → n ≤ length given → (child : NodeId) → slice_get node.children n ≡ Some child → IsChildAt cmp is_summary slots h top id node n child
  border_child s is e given n are few child read = record { at = node_at s is e; within = border_within s is e given n are few; child_is = read }

  pub child_at : IsSubtree cmp is_summary slots h top → top ≡ kind.Inner id → slots.inner id.0 ≡ Present node → (i : ℕ) (child : NodeId) → i < length node.children → slice_get node.children i ≡ Some child → IsChildAt cmp is_summary slots h top id node i child
  child_at s is e i child within read = record { at = node_at s is e; within = within; child_is = read }

  module _ (i : ℕ) (child : NodeId) (there : IsChildAt cmp is_summary slots h top id node i child) where
    -- the child is a tree one level below, with its summaries
    pub below : IsSubtree cmp is_summary slots (h - 1) child
    below = child_subtree total is_summary slots h id node there.at.subtree there.at.read i child there.within there.child_is

    pub one_down : h - 1 < h
    one_down = let p = (inner_present total slots h id there.at.subtree.stored).1 in omega (arith, p)

    pub leads : (k : K) → LeadsToChild cmp k node.keys i → LeadsDown cmp k node.keys i
    leads k found = node_leads total slots h id node there.at.subtree.stored there.at.read k i found

  pub tree_below : IsSubtree cmp is_summary slots h top → top ≡ kind.Inner id → slots.inner id.0 ≡ Present node → (i : ℕ) (child : NodeId) → i < length node.children → slice_get node.children i ≡ Some child → IsSubtree cmp is_summary slots (h - 1) child
  tree_below s is e i child within read = below i child (child_at s is e i child within read)

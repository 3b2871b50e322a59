-- The descent of a search for a key.
use Rattle.std.specs.Prelude.{◌≡◌, ℕ, zero, suc, List, [], ◌∷◌, Some, slice_get}
use Rattle.std.specs.declared.cmp.Ordering.{Ordering}
use Rattle.bptree_nodes.specs.Inner.{Inner}
use Rattle.bptree_nodes.specs.Leaf.{Leaf}
use Rattle.bptree_nodes.specs.Slot.{Slots, Present}
use Rattle.bptree_keys.specs.declared.node_id.InnerNodeId.{InnerNodeId}
use Rattle.bptree_keys.specs.declared.node_id.LeafNodeId.{LeafNodeId}
use Rattle.bptree_keys.specs.declared.node_id.NodeId.{NodeId}
use Rattle.bptree_keys.specs.declared.node_id.NodeId.TheVariants as kind
use Rattle.bptree_invariant.specs.Order.{LeadsDown}

module _ {K V A : Type 0} (cmp : K → K → Ordering) (slots : Slots (Inner K A) (Leaf K V)) (k : K) where
  -- the search has descended from a root by the entries of a path, each of which is an inner node,
  -- a child index and the child there, and has reached a node at a height
  abbrev pub Way : ℕ → NodeId → List (InnerNodeId × ℕ × NodeId) → ℕ → NodeId → Type 0
  Way top root [] h id = (top ≡ h) × (root ≡ id)
  Way zero root (entry ∷ path) h id = ⊥
  Way (suc m) root ((number, i, child) ∷ path) h id =
      (root ≡ kind.Inner number) × (node : Inner K A) × (slots.inner number.0 ≡ Present node) × LeadsDown cmp k node.keys i × (slice_get node.children i ≡ Some child) × Way m child path h id

  -- from each root from which the path leads to this node, the longer path leads to the leaf
  abbrev pub GoesOnTo : List (InnerNodeId × ℕ × NodeId) → ℕ → NodeId → List (InnerNodeId × ℕ × NodeId) → LeafNodeId → Type 0
  GoesOnTo path height id longer leaf = (top : ℕ) (root : NodeId) → Way top root path height id → Way top root longer 0 (kind.Leaf leaf)

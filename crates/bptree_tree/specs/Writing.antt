-- The tree after a borrow of a value that a query selects.
use Rattle.std.specs.Prelude.{◌≡◌, ℕ, ◌+◌, List, Option, Some, length, slice_get}
use Rattle.std.specs.Map.{keys_of, values_of}
use Rattle.bptree_keys.specs.declared.node_id.LeafNodeId.{LeafNodeId}
use Rattle.bptree_nodes.specs.Inner.{Inner}
use Rattle.bptree_nodes.specs.Leaf.{Leaf, set_value_at}
use Rattle.bptree_nodes.specs.Slot.{Slots, Present}
use Rattle.bptree_propagation.specs.NodeTree.{NodeTree}
use Rattle.bptree_invariant.specs.Leaves.{pairs_of, IsLeafOf}

module _ {Q S K V A : Type 0} (selects : Q → List K → Option ℕ → Type 0) (slots : S → Slots (Inner K A) (Leaf K V)) (with_leaf : S → ℕ → Leaf K V → S) (query : Q) (old : NodeTree S K V A) (was w : V) (new : NodeTree S K V A) where
  -- one value is written, at an allowed index of the contents and at its slot of its leaf; nothing
  -- else changes
  pub record WritesSelected : Type 0 where
    pub index : ℕ
    pub selected : selects query (keys_of old.contents) (Some index)
    pub value : slice_get (values_of old.contents) index ≡ Some was
    pub contents : new.contents ≡ set_value_at old.contents index w
    pub leaf : LeafNodeId
    pub slot : ℕ
    pub node : Leaf K V
    pub stored : IsLeafOf (slots old.store) old.height old.root leaf
    pub here : (slots old.store).leaf leaf.0 ≡ Present node
    pub at : index ≡ length (pairs_of (slots old.store) stored.before) + slot
    pub store : new.store ≡ with_leaf old.store leaf.0 (record node { pairs = set_value_at node.pairs slot w })
    pub root : new.root ≡ old.root
    pub height : new.height ≡ old.height
    pub root_argument : new.root_argument ≡ old.root_argument

-- Properties of each tree that a call leaves.
use Rattle.std.specs.Prelude.{◌≡◌, List}
use Rattle.std.specs.declared.cmp.Ordering.{Ordering}
use Rattle.bptree_nodes.specs.Inner.{Inner}
use Rattle.bptree_nodes.specs.Leaf.{Leaf}
use Rattle.bptree_nodes.specs.Slot.{Slots}
use Rattle.bptree_invariant.specs.NodeTree.{NodeTree}
pub use Rattle.bptree_invariant.specs.NodeTree.{IsUntouched, IsWhole}
use Rattle.bptree_invariant.specs.Shape.{pairs_at, IsWellShaped}
use Rattle.std.specs.List.{AllZip}
use Rattle.std.specs.declared.cmp.Ordering.TheVariants.{Equal}
use Rattle.bptree_nodes.specs.Clones.{IsInnerClone, IsLeafClone}
use Rattle.bptree_stores.specs.Clones.{IsSlotsClone}

module _ {S K V A : Type 0} (slots : S → Slots (Inner K A) (Leaf K V)) where
  -- both trees have the same node under each node id of their stores, the same root and height, and
  -- the same argument of the root
  abbrev pub HasSameNodes : NodeTree S K V A → NodeTree S K V A → Type 0
  HasSameNodes new old = (slots new.store ≡ slots old.store) × (new.root ≡ old.root) × (new.height ≡ old.height)
      × (new.root_argument ≡ old.root_argument)

  -- the nodes of the store are those of one valid tree of its height and root
  abbrev pub HasShape : (K → K → Ordering) → (A → List K → Type 0) → NodeTree S K V A → Type 0
  HasShape cmp is_summary tree = IsWellShaped cmp is_summary (slots tree.store) tree.height tree.root

  -- the pairs that the nodes of the tree hold
  abbrev pub pairs_of_nodes : NodeTree S K V A → List (K × V)
  pairs_of_nodes tree = pairs_at (slots tree.store) tree.height tree.root

  -- each node of one store is a clone of the other's under the same node id
  abbrev pub AreNodesCloned : (K → K → Type 0) → (V → V → Type 0) → (A → A → Type 0) → NodeTree S K V A → NodeTree S K V A → Type 0
  AreNodesCloned key_clone value_clone argument_clone tree copy =
      IsSlotsClone (IsInnerClone key_clone argument_clone) (IsLeafClone key_clone value_clone) (slots tree.store) (slots copy.store)

-- one tree has the root and the height of another
abbrev pub HasSameRoot : {S K V A : Type 0} → NodeTree S K V A → NodeTree S K V A → Type 0
HasSameRoot old new = (new.root ≡ old.root) × (new.height ≡ old.height)

-- one tree has the root and the height of another, and the argument of its root
abbrev pub HasSameTop : {S K V A : Type 0} → NodeTree S K V A → NodeTree S K V A → Type 0
HasSameTop new old = (new.root ≡ old.root) × (new.height ≡ old.height) × (new.root_argument ≡ old.root_argument)

-- one list has the keys of another in the same order, and clones of its values
abbrev pub ArePairsCloned : {K V : Type 0} → (K → K → Ordering) → (V → V → Type 0) → List (K × V) → List (K × V) → Type 0
ArePairsCloned cmp value_clone = AllZip (λ p q. (cmp p.0 q.0 ≡ Equal) × value_clone p.1 q.1)

-- the contents of one tree are clones of those of another
abbrev pub HasClonedPairs : {S K V A : Type 0} → (K → K → Ordering) → (V → V → Type 0) → NodeTree S K V A → NodeTree S K V A → Type 0
HasClonedPairs cmp value_clone tree copy = ArePairsCloned cmp value_clone tree.contents copy.contents

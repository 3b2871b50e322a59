-- The value that contracts use for the nodes of one tree.
use Rattle.std.specs.Prelude.{◌≡◌, ℕ, List}
use Rattle.std.specs.Map.{keys_of}
use Rattle.std.specs.declared.cmp.Ordering.{Ordering}
use Rattle.bptree_keys.specs.declared.node_id.LeafNodeId.{LeafNodeId}
use Rattle.bptree_keys.specs.declared.node_id.NodeId.{NodeId}
use Rattle.bptree_nodes.specs.Inner.{Inner}
use Rattle.bptree_nodes.specs.Leaf.{Leaf}
use Rattle.bptree_nodes.specs.Slot.{Slots}
use Rattle.bptree_invariant.specs.Leaves.{IsFirstLeaf, IsLastLeaf, IsLeafFor}
use Rattle.bptree_invariant.specs.Shape.{pairs_at, IsWellShaped}

-- the pairs, in the order of their keys, and the nodes that hold them
pub record NodeTree (S K V A : Type 0) : Type 0 where
  pub contents : List (K × V)
  pub store : S
  pub root : NodeId
  pub height : ℕ
  pub root_argument : A

-- the nodes of the store are those of one valid tree with this height and root, the contents are
-- the pairs of that tree, and the root's argument is a summary of their keys
pub record IsWhole {S K V A : Type 0} (cmp : K → K → Ordering) (is_summary : A → List K → Type 0) (slots : S → Slots (Inner K A) (Leaf K V)) (tree : NodeTree S K V A) : Type 0 where
  pub shape : IsWellShaped cmp is_summary (slots tree.store) tree.height tree.root
  pub contents : tree.contents ≡ pairs_at (slots tree.store) tree.height tree.root
  pub summary : is_summary tree.root_argument (keys_of tree.contents)

-- the two trees have equal slots in their stores, and equal roots, heights, root arguments and
-- contents
abbrev pub IsUntouched : {S K V A : Type 0} → (S → Slots (Inner K A) (Leaf K V)) → NodeTree S K V A → NodeTree S K V A → Type 0
IsUntouched slots new old = (slots new.store ≡ slots old.store) × (new.root ≡ old.root) × (new.height ≡ old.height)
    × (new.root_argument ≡ old.root_argument) × (new.contents ≡ old.contents)

module _ {S K V A : Type 0} (slots : S → Slots (Inner K A) (Leaf K V)) (tree : NodeTree S K V A) where
  -- the leaf is the tree's first one, its last one, or the only one that can hold the key
  abbrev pub BeginsWith : LeafNodeId → Type 0
  BeginsWith leaf = IsFirstLeaf (slots tree.store) tree.height tree.root leaf

  abbrev pub EndsWith : LeafNodeId → Type 0
  EndsWith leaf = IsLastLeaf (slots tree.store) tree.height tree.root leaf

  abbrev pub PathLeadsTo : (K → K → Ordering) → K → LeafNodeId → Type 0
  PathLeadsTo cmp k leaf = IsLeafFor cmp (slots tree.store) tree.height tree.root k leaf

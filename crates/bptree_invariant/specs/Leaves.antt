-- The position of a leaf in the order of a tree's leaves.
use Rattle.std.specs.Prelude.{◌≡◌, ℕ, Bool, cond, true, false, List, [], ◌∷◌, ◌++◌, Option}
use Rattle.std.specs.declared.cmp.Ordering.{Ordering}
use Rattle.std.specs.declared.cmp.Ordering.TheVariants.{Less, Greater}
use Rattle.std.specs.List.{AllByRecursion}
use Rattle.bptree_nodes.specs.Inner.{Inner}
use Rattle.bptree_nodes.specs.Leaf.{Leaf}
use Rattle.bptree_keys.specs.Indexes.{AllCompare}
use Rattle.bptree_nodes.specs.Slot.{Slots, IsPresent}
use Rattle.bptree_keys.specs.declared.node_id.LeafNodeId.{LeafNodeId}
use Rattle.bptree_keys.specs.declared.node_id.NodeId.{NodeId}
use Rattle.bptree_invariant.specs.Order.{flat}
use Rattle.bptree_invariant.specs.Shape.{leaf_pairs, leaves_at, IsTree}

module _ {K V A : Type 0} (slots : Slots (Inner K A) (Leaf K V)) where
  -- the pairs of several leaves, one leaf after another
  abbrev pub pairs_of : List LeafNodeId → List (K × V)
  pairs_of ids = flat (λ (id : LeafNodeId). leaf_pairs (slots.leaf id.0)) ids

  -- the leaf is one of the tree's leaves, with some leaves before it and some after it
  pub record IsLeafOf (h : ℕ) (root : NodeId) (leaf : LeafNodeId) : Type 0 where
    pub before : List LeafNodeId
    pub after : List LeafNodeId
    pub leaves : leaves_at slots h root ≡ before ++ leaf ∷ after
    pub present : IsPresent (slots.leaf leaf.0)

  -- no leaf of the tree is before this one, or, for the last leaf, after it
  pub record IsFirstLeaf (h : ℕ) (root : NodeId) (leaf : LeafNodeId) : Type 0 where
    pub stored : IsLeafOf h root leaf
    pub first : stored.before ≡ []

  pub record IsLastLeaf (h : ℕ) (root : NodeId) (leaf : LeafNodeId) : Type 0 where
    pub stored : IsLeafOf h root leaf
    pub last : stored.after ≡ []

  -- the leaf is the last one or the first one, as the flag says
  abbrev pub IsEndLeaf : Bool → ℕ → NodeId → LeafNodeId → Type 0
  IsEndLeaf is_last h root leaf = cond is_last (IsLastLeaf h root leaf) (IsFirstLeaf h root leaf)

  -- the keys before the leaf pass a test, and those behind the leaf do not
  pub record IsBorderLeaf (test : K → Bool) (h : ℕ) (root : NodeId) (leaf : LeafNodeId) : Type 0 where
    pub stored : IsLeafOf h root leaf
    pub before : AllByRecursion (λ p. test p.0 ≡ true) (pairs_of stored.before)
    pub behind : AllByRecursion (λ p. test p.0 ≡ false) (pairs_of stored.after)

module _ {K V A : Type 0} (cmp : K → K → Ordering) (slots : Slots (Inner K A) (Leaf K V)) where
  -- the node id is that of a tree of this height, with its keys between some bounds
  pub record IsStored (h : ℕ) (root : NodeId) : Type 0 where
    pub least : ℕ
    pub low : Option K
    pub high : Option K
    pub tree : IsTree cmp slots least h root low high

  -- the leaf is the only one that can hold the key
  pub record IsLeafFor (h : ℕ) (root : NodeId) (k : K) (leaf : LeafNodeId) : Type 0 where
    pub stored : IsLeafOf slots h root leaf
    pub smaller : AllCompare cmp k Less (pairs_of slots stored.before)
    pub greater : AllCompare cmp k Greater (pairs_of slots stored.after)

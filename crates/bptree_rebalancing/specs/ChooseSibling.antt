-- The sibling that a child that underflows rotates or merges with.
use Rattle.std.specs.Prelude.{◌≡◌, ℕ, zero, suc, ◌+◌, ◌<◌, ◌≤◌, ◌⊎◌, Bool, true, false, List, [], ◌∷◌, length, slice_get, Option, Some, None}
use Rattle.std.specs.List.{AllByRecursion}
use Rattle.bptree_nodes.specs.Inner.{Inner}
use Rattle.bptree_nodes.specs.Leaf.{Leaf}
use Rattle.bptree_nodes.specs.Slot.{Slots, IsPresent}
use Rattle.bptree_keys.specs.declared.node_id.InnerNodeId.{InnerNodeId}
use Rattle.bptree_keys.specs.declared.node_id.LeafNodeId.{LeafNodeId}
use Rattle.bptree_keys.specs.declared.node_id.NodeId.{NodeId}
use Rattle.bptree_keys.specs.declared.node_id.NodeId.TheVariants as kind
use Rattle.bptree_rebalancing.specs.Transfer.{CanGive, CanGiveMany, CanSpare}
use Rattle.bptree_invariant.specs.Shape.{leaf_pairs, inner_keys, inner_children}
use Rattle.bptree_rebalancing.specs.declared.rotate_merge.Sibling.{Sibling}
use Rattle.bptree_rebalancing.specs.declared.rotate_merge.Sibling.TheVariants.{Left, Right}

-- which sibling gives, if one has more than the most to merge with, and the slot of the separator
-- between the two
abbrev pub ChosenSibling : ℕ → Bool → ℕ → ℕ → ℕ → Option Sibling → Type 0
ChosenSibling index gives after most slot (Some Left) = (gives ≡ true) × (suc slot ≡ index)
ChosenSibling index gives after most slot (Some Right) = (most < after) × (slot ≡ index)
ChosenSibling index gives after most slot None = (gives ≡ false) × (after ≤ most) × ((suc slot ≡ index) ⊎ ((slot ≡ index) × (index ≡ 0)))

-- which sibling gives, by the sizes of the children: a sibling that gives has more than 16, and one
-- to merge with has at most 48
abbrev pub ChoosesSibling : (ℕ → ℕ) → ℕ → ℕ → Option Sibling → Type 0
ChoosesSibling size index slot (Some Left) = (suc slot ≡ index) × (16 < size slot)
ChoosesSibling size index slot (Some Right) = (slot ≡ index) × (16 < size (suc slot))
ChoosesSibling size index slot None = ((suc slot ≡ index) × (size slot ≤ 48)) ⊎ ((slot ≡ index) × (index ≡ 0) × (size (suc slot) ≤ 48))

module _ {K V A : Type 0} (slots : Slots (Inner K A) (Leaf K V)) where
  -- the number of keys or pairs of a node
  abbrev pub node_size : NodeId → ℕ
  node_size (kind.Leaf id) = length (leaf_pairs (slots.leaf id.0))
  node_size (kind.Inner id) = length (inner_keys (slots.inner id.0))

  -- the number of keys or pairs of the child at an index; 0 past the end
  abbrev pub child_size : List NodeId → ℕ → ℕ
  child_size [] i = 0
  child_size (c ∷ cs) zero = node_size c
  child_size (c ∷ cs) (suc i) = child_size cs i

  abbrev pub IsInnerAt : NodeId → Type 0
  IsInnerAt (kind.Leaf id) = ⊥
  IsInnerAt (kind.Inner id) = IsPresent (slots.inner id.0)

  abbrev pub IsLeafAt : NodeId → Type 0
  IsLeafAt (kind.Leaf id) = IsPresent (slots.leaf id.0)
  IsLeafAt (kind.Inner id) = ⊥

  abbrev pub IsNodeAt : NodeId → Type 0
  IsNodeAt (kind.Leaf id) = IsPresent (slots.leaf id.0)
  IsNodeAt (kind.Inner id) = IsPresent (slots.inner id.0)

  -- all ids are those of present inner nodes (`AllInner`), or of present leaves (`AllLeaves`)
  abbrev pub AllInner : List NodeId → Type 0
  AllInner cs = AllByRecursion IsInnerAt cs

  abbrev pub AllLeaves : List NodeId → Type 0
  AllLeaves cs = AllByRecursion IsLeafAt cs

  -- the children of a node are present inner nodes, or present leaves, or either; and the node has
  -- one child more than keys (`HasOneChildMore`)
  abbrev pub InnersBelow : InnerNodeId → Type 0
  InnersBelow id = AllInner (inner_children (slots.inner id.0))

  abbrev pub LeavesBelow : InnerNodeId → Type 0
  LeavesBelow id = AllLeaves (inner_children (slots.inner id.0))

  abbrev pub NodesBelow : InnerNodeId → Type 0
  NodesBelow id = AllByRecursion IsNodeAt (inner_children (slots.inner id.0))

  abbrev pub HasOneChildMore : InnerNodeId → Type 0
  HasOneChildMore id = length (inner_children (slots.inner id.0)) ≡ length (inner_keys (slots.inner id.0)) + 1

  -- a node is present, has a child at an index, and has at most 65 children
  abbrev pub HasIndexBelow : InnerNodeId → ℕ → Type 0
  HasIndexBelow id index = IsPresent (slots.inner id.0) × (index < length (inner_children (slots.inner id.0))) × (length (inner_children (slots.inner id.0)) ≤ 65)

  -- the child of a node at an index, and the number of its keys or pairs (`size_below`); 0 past the
  -- end
  abbrev pub HasChild : InnerNodeId → ℕ → NodeId → Type 0
  HasChild id index child = slice_get (inner_children (slots.inner id.0)) index ≡ Some child

  abbrev pub size_below : InnerNodeId → ℕ → ℕ
  size_below id = child_size (inner_children (slots.inner id.0))

  -- the giver of two leaves has `count` pairs to give, and the other has room for them
  abbrev pub CanGivePairs : Sibling → ℕ → LeafNodeId → LeafNodeId → Type 0
  CanGivePairs giver count left right = CanGiveMany giver count (length (leaf_pairs (slots.leaf left.0))) (length (leaf_pairs (slots.leaf right.0)))

  -- the giver of two leaves has enough pairs left after it gives `count`, which is not zero
  abbrev pub CanSparePairs : Sibling → ℕ → LeafNodeId → LeafNodeId → Type 0
  CanSparePairs giver count left right = CanSpare giver count (length (leaf_pairs (slots.leaf left.0))) (length (leaf_pairs (slots.leaf right.0)))

  -- the giver of two leaves has more than 16 pairs
  abbrev pub HasSparePairs : Sibling → LeafNodeId → LeafNodeId → Type 0
  HasSparePairs giver left right = CanSparePairs giver 1 left right

  -- the giver of two inner nodes has a child to give, and the other has room

  abbrev pub CanGiveChild : Sibling → InnerNodeId → InnerNodeId → Type 0
  CanGiveChild giver left right = CanGive giver (length (inner_keys (slots.inner left.0))) (length (inner_keys (slots.inner right.0)))

  -- the pairs of two leaves fit in one leaf, or the keys of two inner nodes, with the separator,
  -- fit in one node
  abbrev pub FitInOneLeaf : LeafNodeId → LeafNodeId → Type 0
  FitInOneLeaf left right = length (leaf_pairs (slots.leaf left.0)) + length (leaf_pairs (slots.leaf right.0)) ≤ 64

  abbrev pub FitInOneNode : InnerNodeId → InnerNodeId → Type 0
  FitInOneNode left right = length (inner_keys (slots.inner left.0)) + length (inner_keys (slots.inner right.0)) < 64

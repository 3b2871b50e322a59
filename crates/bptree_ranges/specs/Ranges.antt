-- Positions in the leaves of a tree, and the part of its contents between two of them.
use Rattle.std.specs.Prelude.{◌≡◌, ℕ, ◌+◌, ◌-◌, ◌<◌, ◌≤◌, ◌==◌, ◌⊎◌, cond, min, List, [], ◌∷◌, length}
use Rattle.bptree_iter.specs.Span.{Reports}
use Rattle.bptree_iter.specs.declared.part.PartLen.TheVariants.{Exact}
use Rattle.bptree_iter.specs.declared.part.Part.{Part}
use Rattle.bptree_keys.specs.Ranges.{part}
use Rattle.bptree_keys.specs.declared.node_id.LeafNodeId.{LeafNodeId}
use Rattle.bptree_keys.specs.declared.node_id.Position.{Position}
use Rattle.bptree_keys.specs.declared.node_id.NodeId.{NodeId}
use Rattle.bptree_nodes.specs.Inner.{Inner}
use Rattle.bptree_nodes.specs.Leaf.{Leaf}
use Rattle.bptree_nodes.specs.Slot.{Slots}
use Rattle.bptree_invariant.specs.Leaves.{pairs_of, IsLeafOf}
use Rattle.bptree_invariant.specs.Shape.{leaf_pairs, leaves_at, pairs_at}

-- the leaves before the one with an id
abbrev pub ahead : ℕ → List LeafNodeId → List LeafNodeId
ahead n [] = []
ahead n (x ∷ xs) = cond (x.0 == n) [] (x ∷ ahead n xs)

module _ {K V A : Type 0} (slots : Slots (Inner K A) (Leaf K V)) (h : ℕ) (root : NodeId) where
  -- the number of pairs before a leaf of the tree
  abbrev pub start : LeafNodeId → ℕ
  start leaf = length (pairs_of slots (ahead leaf.0 (leaves_at slots h root)))

  -- the position is that of a pair of a leaf of the tree, or the end of the leaf
  pub record IsIndexOn (leaf : LeafNodeId) (offset : ℕ) : Type 0 where
    pub stored : IsLeafOf slots h root leaf
    pub within : offset ≤ length (leaf_pairs (slots.leaf leaf.0))

  -- the number of pairs before a position
  abbrev pub index_on : Position → ℕ
  index_on at = start at.leaf + at.slot

  -- the position has so many pairs before it, and is at a pair unless it is the end of all
  pub record IsSettled (index : ℕ) (at : Position) : Type 0 where
    pub on : IsIndexOn at.leaf at.slot
    pub same : index_on at ≡ index
    pub pair : index < length (pairs_at slots h root) → at.slot < length (leaf_pairs (slots.leaf at.leaf.0))

  -- The part has these pairs, between its two positions. The second is after the first, or they are
  -- equal.
  pub record IsPart (p : Part) (xs : List (K × V)) : Type 0 where
    pub front : IsIndexOn p.front.leaf p.front.slot
    pub back : IsIndexOn p.back.leaf p.back.slot
    pub rises : (index_on p.front < index_on p.back) ⊎ (p.back ≡ p.front)
    pub reports : Reports p.extent p.limit (index_on p.back - index_on p.front)
    pub pairs : xs ≡ part (pairs_at slots h root) (index_on p.front) (min p.limit (index_on p.back - index_on p.front))

-- a part without pairs, at a position
abbrev pub empty_at : Position → Part
empty_at at = record { front = at; back = at; limit = 0; extent = Exact }

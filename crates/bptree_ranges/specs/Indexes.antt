-- The results of a walk over the positions of a tree.
use Rattle.std.specs.Prelude.{◌≡◌, ℕ, zero, suc, ◌+◌, ◌<◌, ◌≤◌, List, length, min, take, filter, false, Option, Some, None}
use Rattle.std.specs.declared.cmp.Ordering.{Ordering}
use Rattle.bptree_arguments.specs.GroupResults.{is_before}
use Rattle.bptree_arguments.specs.Groups.{of_group}
use Rattle.bptree_keys.specs.Ends.{is_back}
use Rattle.bptree_keys.specs.declared.end.End.{End}
use Rattle.bptree_keys.specs.declared.node_id.LeafNodeId.{LeafNodeId}
use Rattle.bptree_keys.specs.declared.node_id.Position.{Position}
use Rattle.bptree_keys.specs.declared.node_id.NodeId.{NodeId}
use Rattle.bptree_keys.specs.declared.node_id.NodeId.TheVariants as kind
use Rattle.bptree_nodes.specs.Inner.{Inner}
use Rattle.bptree_nodes.specs.Leaf.{Leaf}
use Rattle.bptree_nodes.specs.Slot.{Slots}
use Rattle.bptree_ranges.specs.Ranges.{start, IsIndexOn}
use Rattle.bptree_ranges.specs.declared.indexes.Skipped.{Skipped}
use Rattle.bptree_ranges.specs.declared.indexes.Skipped.TheVariants.{Found, Short}
use Rattle.bptree_invariant.specs.Leaves.{pairs_of, IsBorderLeaf, IsLeafOf}
use Rattle.bptree_invariant.specs.Order.{flat}
use Rattle.bptree_invariant.specs.Shape.{leaf_pairs, inner_children, pairs_at}

-- the number of pairs before a group
abbrev pub before_group : {K V G : Type 0} → (G → G → Ordering) → (K → G) → G → List (K × V) → ℕ
before_group cmp group_of g pairs = length (filter (λ pair. is_before false (cmp (group_of pair.0) g)) pairs)

module _ {K V A : Type 0} (slots : Slots (Inner K A) (Leaf K V)) where
  -- the number of a tree's pairs before a slot if it is a leaf, or else below the children before a
  -- child
  abbrev pub before_entry : ℕ → NodeId → ℕ → ℕ
  before_entry zero (kind.Leaf id) n = min n (length (leaf_pairs (slots.leaf id.0)))
  before_entry zero (kind.Inner id) n = 0
  before_entry (suc h) (kind.Inner id) n = length (flat (pairs_at slots h) (take n (inner_children (slots.inner id.0))))
  before_entry (suc h) (kind.Leaf id) n = 0

  -- a walk over i pairs from index `from` on finds the pair after them, or how many more pairs are
  -- to be passed
  abbrev pub IsSkipped : ℕ → NodeId → ℕ → ℕ → Skipped → Type 0
  IsSkipped h id from i (Found at) =
      (stored : IsLeafOf slots h id at.leaf) × (at.slot < length (leaf_pairs (slots.leaf at.leaf.0))) × (length (pairs_of slots stored.before) + at.slot ≡ from + i)
  IsSkipped h id from i (Short rest) = from + i ≡ length (pairs_at slots h id) + rest

  -- the position of the pair after the first i of a group, or `None` if the group has no more
  abbrev pub IsIndexInGroup : {G : Type 0} → (G → G → Ordering) → (K → G) → G → ℕ → NodeId → ℕ → Option Position → Type 0
  IsIndexInGroup cmp group_of g h root i None = length (of_group cmp group_of g (pairs_at slots h root)) ≤ i
  IsIndexInGroup cmp group_of g h root i (Some at) =
      IsIndexOn slots h root at.leaf at.slot × (start slots h root at.leaf + at.slot ≡ before_group cmp group_of g (pairs_at slots h root) + i)
      × (i < length (of_group cmp group_of g (pairs_at slots h root)))

  -- a walk over i pairs from a slot of a leaf or a child of an inner node on has this result
  abbrev pub IsSkippedFrom : ℕ → NodeId → ℕ → ℕ → Skipped → Type 0
  IsSkippedFrom h id first i skipped = IsSkipped h id (before_entry h id first) i skipped

module _ {K V A G : Type 0} (cmp : G → G → Ordering) (group_of : K → G) (g : G) (slots : Slots (Inner K A) (Leaf K V)) (h : ℕ) (root : NodeId) where
  -- a walk over i pairs from the start of a group on has this result
  abbrev pub SkipsInto : ℕ → Skipped → Type 0
  SkipsInto i skipped = IsSkipped slots h root (before_group cmp group_of g (pairs_at slots h root)) i skipped

  -- the leaf is the one in which a group ends, or begins
  abbrev pub BordersLeaf : End → LeafNodeId → Type 0
  BordersLeaf end leaf = IsBorderLeaf slots (λ k. is_before (is_back end) (cmp (group_of k) g)) h root leaf

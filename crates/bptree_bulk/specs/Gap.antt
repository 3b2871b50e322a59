-- The pairs of a tree that stay when those between two positions go.
use Rattle.std.specs.Prelude.{◌≡◌, ℕ, ◌+◌, ◌<◌, ◌≤◌, List, ◌++◌, length, take, drop}
use Rattle.bptree_bulk.specs.Cut.{pairs_before}
use Rattle.bptree_bulk.specs.declared.gap.Gap.{Gap}
use Rattle.bptree_keys.specs.declared.node_id.LeafNodeId.{LeafNodeId}
use Rattle.bptree_nodes.specs.Inner.{Inner}
use Rattle.bptree_nodes.specs.Leaf.{Leaf}
use Rattle.bptree_nodes.specs.Slot.{Slots}

-- a list without the members from one index up to another
abbrev pub without_part : {X : Type 0} → ℕ → ℕ → List X → List X
without_part from to l = take from l ++ drop to l

-- the first members without those of the gap
abbrev pub kept_of : {X : Type 0} → Gap → List X → List X
kept_of gap l = take gap.count (without_part gap.before gap.behind l)

module _ {K V A : Type 0} (slots : Slots (Inner K A) (Leaf K V)) (ids : List LeafNodeId) where
  -- the leaves before and behind the border stay whole; of the border's pairs the first ones stay,
  -- and those from an index on
  pub record IsGap (gap : Gap) : Type 0 where
    pub order : gap.from < gap.to
    pub within : gap.to ≤ length ids
    pub rises : gap.before ≤ gap.behind
    pub stays : gap.before ≤ gap.count
    pub border : pairs_before slots ids gap.to + gap.before ≡ pairs_before slots ids gap.from + gap.behind + gap.count
    pub some : 0 < gap.count
    pub enough_before : 0 < gap.from → 16 ≤ gap.count
    pub enough_behind : gap.to < length ids → 16 ≤ gap.count

  -- the number of pairs before those that go, and the number before the end of these
  abbrev pub gap_begins : Gap → ℕ
  gap_begins gap = pairs_before slots ids gap.from + gap.before

  abbrev pub gap_ends : Gap → ℕ
  gap_ends gap = pairs_before slots ids gap.from + gap.behind

-- The leaves of a tree on both sides of a cut, and the leaves that are built of those at the cut.
use Rattle.std.specs.Prelude.{◌≡◌, ℕ, zero, suc, ◌+◌, ◌<◌, ◌≤◌, List, [], ◌∷◌, ◌++◌, Option, None, Some, length, map, take, drop}
use Rattle.std.specs.List.{AllByRecursion}
use Rattle.bptree_bulk_load.specs.Rooms.{pairs_under}
use Rattle.bptree_bulk.specs.declared.cut.Cut.{Cut}
use Rattle.bptree_keys.specs.Ranges.{part}
use Rattle.bptree_keys.specs.declared.node_id.LeafNodeId.{LeafNodeId}
use Rattle.bptree_nodes.specs.Inner.{Inner}
use Rattle.bptree_nodes.specs.Leaf.{Leaf}
use Rattle.bptree_nodes.specs.Slot.{Slots}
use Rattle.bptree_invariant.specs.Leaves.{pairs_of}

-- the key of the first pair
abbrev pub first_key : {K V : Type 0} → List (K × V) → Option K
first_key [] = None
first_key (pair ∷ pairs) = Some pair.0

-- a list as one piece, or as two pieces of which the first has so many members
abbrev pub pieces : {X : Type 0} → ℕ → List X → List (List X)
pieces zero l = l ∷ []
pieces (suc n) l = take (suc n) l ∷ drop (suc n) l ∷ []

-- 0 if one leaf holds so many pairs; otherwise the number that the first of two leaves takes
pub record IsHalf (count half : ℕ) : Type 0 where
  pub one : half ≡ 0 → count ≤ 64
  pub two : 0 < half → (16 ≤ half) × (half ≤ 64) × (half + 16 ≤ count) × (count ≤ half + 64)

module _ {K V A : Type 0} (slots : Slots (Inner K A) (Leaf K V)) (ids : List LeafNodeId) where
  -- the number of pairs before the leaf at an index
  abbrev pub pairs_before : ℕ → ℕ
  pairs_before i = length (pairs_of slots (take i ids))

  -- the border begins at leaf `from`, at leaf `i` or before it, and `count` pairs are between them
  pub record BeginsBorder (i from count : ℕ) : Type 0 where
    pub order : from ≤ i
    pub sum : pairs_before i ≡ pairs_before from + count
    pub most : count ≤ 64
    pub enough : 0 < i → (least : ℕ) → AllByRecursion (λ id. least ≤ length (pairs_under slots id)) ids → least ≤ count

  -- the border ends at leaf `to`, at leaf `i` or behind it, and `count` pairs are between them
  pub record EndsBorder (i to count : ℕ) : Type 0 where
    pub order : i ≤ to
    pub within : to ≤ length ids
    pub sum : pairs_before to ≡ pairs_before i + count
    pub most : count ≤ 64
    pub enough : i < length ids → (least : ℕ) → AllByRecursion (λ id. least ≤ length (pairs_under slots id)) ids → least ≤ count

  -- the pairs of the leaves from the cut on
  abbrev pub from_cut : Cut → List (K × V)
  from_cut cut = pairs_of slots (drop cut.from ids)

  -- the leaves before and behind the border move whole; the border's pairs are on both sides
  pub record IsCut (cut : Cut) : Type 0 where
    pub order : cut.from ≤ cut.to
    pub within : cut.to ≤ length ids
    pub border : pairs_before cut.to ≡ pairs_before cut.from + (cut.below + cut.above)
    pub below_some : 0 < cut.below
    pub below_enough : 0 < cut.from → 16 ≤ cut.below
    pub above_some : 0 < cut.above
    pub above_enough : cut.to < length ids → 16 ≤ cut.above
    pub below_half : IsHalf cut.below cut.below_half
    pub above_half : IsHalf cut.above cut.above_half

  -- the number of pairs before the cut
  abbrev pub cut_at : Cut → ℕ
  cut_at cut = pairs_before cut.from + cut.below

  -- the pairs of each leaf of the lower side, and of the upper one
  abbrev pub lower_parts : Cut → List (List (K × V))
  lower_parts cut = map (pairs_under slots) (take cut.from ids) ++ pieces cut.below_half (part (from_cut cut) 0 cut.below)

  abbrev pub upper_parts : Cut → List (List (K × V))
  upper_parts cut = pieces cut.above_half (part (from_cut cut) cut.below cut.above) ++ map (pairs_under slots) (drop cut.to ids)

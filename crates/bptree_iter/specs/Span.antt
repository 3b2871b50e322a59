-- Leaves that follow one another by their links, and the pairs between two positions in them.
use Rattle.std.specs.Prelude.{◌≡◌, ◌==◌, ℕ, zero, suc, ◌+◌, ◌<◌, ◌≤◌, ◌≢◌, ⊤, cond, IsSome, List, [], ◌∷◌, ◌++◌, length, take, drop, Option, Some, None}
use Rattle.std.specs.Option.{option_map_or}
use Rattle.bptree_iter.specs.declared.part.PartLen.{PartLen}
use Rattle.bptree_iter.specs.declared.part.PartLen.TheVariants.{Exact, Open, Cut}
use Rattle.bptree_iter.specs.declared.part.Part.{Part}
use Rattle.bptree_keys.specs.declared.node_id.LeafNodeId.{LeafNodeId}
use Rattle.bptree_keys.specs.declared.node_id.Position.{Position}
use Rattle.bptree_nodes.specs.Inner.{Inner}
use Rattle.bptree_nodes.specs.Leaf.{Leaf}
use Rattle.bptree_nodes.specs.Slot.{Slot, Slots, Free, Held, Present}

-- of the leaf `front` and the leaves after it, each but the last differs from `back`
abbrev pub AreApart : LeafNodeId → List LeafNodeId → LeafNodeId → Type 0
AreApart front [] back = ⊤
AreApart front (id ∷ ids) back = (front ≢ back) × AreApart id ids back

-- how `limit` relates to a number of pairs: it is that number, it is at least that number, or
-- anything
abbrev pub Reports : PartLen → ℕ → ℕ → Type 0
Reports Exact limit n = n ≡ limit
Reports Open limit n = n ≤ limit
Reports Cut limit n = ⊤

-- the pairs of a leaf go up to `end`: the slot of the back if that is in this leaf, and the leaf's
-- end otherwise
abbrev pub IsEndIn : {K V : Type 0} → LeafNodeId → LeafNodeId → ℕ → Leaf K V → ℕ → Type 0
IsEndIn front back to leaf end = (front ≡ back → end ≡ to) × (front ≢ back → end ≡ length leaf.pairs)

module _ {K V : Type 0} (leaves : LeafNodeId → Option (Leaf K V)) where
  -- The pairs xs are those from slot `from` of the leaf `front`, along the leaves `ids` after it,
  -- up to slot `to` of the leaf `back`.
  abbrev pub IsSpan : LeafNodeId → ℕ → List LeafNodeId → LeafNodeId → ℕ → List (K × V) → Type 0
  IsSpan front from [] back to xs = (leaf : Leaf K V) × (leaves front ≡ Some leaf) × (back ≡ front)
      × (from ≤ to) × (to ≤ length leaf.pairs) × (xs ≡ drop from (take to leaf.pairs))
  IsSpan front from (id ∷ ids) back to xs = (leaf : Leaf K V) × (after : Leaf K V)
      × (leaves front ≡ Some leaf) × (leaf.next ≡ Some id)
      × (leaves id ≡ Some after) × (after.prev ≡ Some front)
      × (from ≤ length leaf.pairs) × (0 < length leaf.pairs)
      × (ys : List (K × V)) × (xs ≡ drop from leaf.pairs ++ ys) × IsSpan id 0 ids back to ys

  -- the pairs of a leaf from a slot on, and then those that `rest` gives from the start of the next
  -- leaf
  abbrev pub span_pairs : (LeafNodeId → ℕ → List (K × V)) → Option (Leaf K V) → ℕ → List (K × V)
  span_pairs rest None from = []
  span_pairs rest (Some leaf) from = drop from leaf.pairs ++ option_map_or (λ id. rest id 0) leaf.next []

  -- the pairs of at most so many leaves, from slot `from` of the leaf `id` on
  abbrev pub pairs_from : ℕ → LeafNodeId → ℕ → List (K × V)
  pairs_from zero id from = []
  pairs_from (suc count) id from = span_pairs (pairs_from count) (leaves id) from

  -- the first `len` pairs from slot `from` of the leaf `front` on: `len + 2` leaves suffice, as
  -- each but the first and the last has a pair
  abbrev pub pairs_left : LeafNodeId → ℕ → ℕ → List (K × V)
  pairs_left front from len = take len (pairs_from (len + 2) front from)

  -- the pairs of a leaf from one slot up to another
  abbrev pub pairs_within : Option (Leaf K V) → ℕ → ℕ → List (K × V)
  pairs_within None from to = []
  pairs_within (Some leaf) from to = drop from (take to leaf.pairs)

  -- the pairs of at most so many leaves, from slot `from` of the leaf `front` on, and up to slot
  -- `to` of the leaf `back`
  abbrev pub pairs_upto : ℕ → LeafNodeId → ℕ → LeafNodeId → ℕ → List (K × V)
  pairs_upto zero front from back to = []
  pairs_upto (suc count) front from back to = cond (front.0 == back.0) (pairs_within (leaves front) from to) (span_pairs (λ id index. pairs_upto count id index back to) (leaves front) from)

  -- the first `limit` pairs between two positions, or all if there are fewer: `limit + 1` leaves
  -- suffice, as each but the first and the last has a pair
  abbrev pub first_between : LeafNodeId → ℕ → LeafNodeId → ℕ → ℕ → List (K × V)
  first_between front from back to limit = take limit (pairs_upto (limit + 1) front from back to)

  -- there are pairs between two positions, and `limit` relates to their number as `extent` says
  pub record IsBetween (front : LeafNodeId) (from : ℕ) (back : LeafNodeId) (to limit : ℕ) (extent : PartLen) : Type 0 where
    pub ids : List LeafNodeId
    pub pairs : List (K × V)
    pub span : IsSpan front from ids back to pairs
    pub apart : AreApart front ids back
    pub reports : Reports extent limit (length pairs)

  -- a step forward from this slot of a leaf leads to a leaf
  pub record CanGoOn (id : LeafNodeId) (offset : ℕ) (back : LeafNodeId) : Type 0 where
    pub leaf : Leaf K V
    pub found : leaves id ≡ Some leaf
    pub next : id ≢ back → offset ≡ length leaf.pairs → (after : LeafNodeId) × (leaf.next ≡ Some after) × IsSome (leaves after)

  -- The front position is the given one, or the start of the next leaf if the given one is the end
  -- of a leaf before the last.
  pub record IsFrontIndex (id : LeafNodeId) (offset : ℕ) (back id' : LeafNodeId) (offset' : ℕ) : Type 0 where
    pub leaf : Leaf K V
    pub found : leaves id ≡ Some leaf
    pub over : id ≢ back → offset ≡ length leaf.pairs → (leaf.next ≡ Some id') × (offset' ≡ 0)
    pub last : id ≡ back → (id' ≡ id) × (offset' ≡ offset)
    pub here : offset ≢ length leaf.pairs → (id' ≡ id) × (offset' ≡ offset)

  -- a step back from this slot of a leaf leads to a leaf
  pub record CanGoBack (id : LeafNodeId) (offset : ℕ) (front : LeafNodeId) : Type 0 where
    pub leaf : Leaf K V
    pub found : leaves id ≡ Some leaf
    pub prev : id ≢ front → offset ≡ 0 → (before : LeafNodeId) × (leaf.prev ≡ Some before) × IsSome (leaves before)

  -- The back position is the given one, or the end of the previous leaf if the given one is the
  -- start of a leaf after the first.
  pub record IsBackIndex (id : LeafNodeId) (offset : ℕ) (front id' : LeafNodeId) (offset' : ℕ) : Type 0 where
    pub leaf : Leaf K V
    pub found : leaves id ≡ Some leaf
    pub over : id ≢ front → offset ≡ 0 → (leaf.prev ≡ Some id') × (before : Leaf K V) × (leaves id' ≡ Some before) × (offset' ≡ length before.pairs)
    pub first : id ≡ front → (id' ≡ id) × (offset' ≡ offset)
    pub here : offset ≢ 0 → (id' ≡ id) × (offset' ≡ offset)

  -- the back position after a step over the start of a leaf, for values of `Position`
  abbrev pub IsBackPosition : Position → LeafNodeId → Position → Type 0
  IsBackPosition at front index = IsBackIndex at.leaf at.slot front index.leaf index.slot

-- the leaf that the entry of a store contains, if it contains one
abbrev pub leaf_of : {K V : Type 0} → Slot (Leaf K V) → Option (Leaf K V)
leaf_of Free = None
leaf_of Held = None
leaf_of (Present leaf) = Some leaf

abbrev pub leaves_of : {K V A : Type 0} → Slots (Inner K A) (Leaf K V) → LeafNodeId → Option (Leaf K V)
leaves_of slots id = leaf_of (slots.leaf id.0)

module _ {K V A : Type 0} (slots : Slots (Inner K A) (Leaf K V)) where
  -- there are pairs between the positions of a part, and its limit relates to their number as its
  -- extent says; and the first of these pairs, up to the limit
  abbrev pub IsPartIn : Part → Type 0
  IsPartIn part = IsBetween (leaves_of slots) part.front.leaf part.front.slot part.back.leaf part.back.slot part.limit part.extent

  abbrev pub pairs_of_part : Part → List (K × V)
  pairs_of_part part = first_between (leaves_of slots) part.front.leaf part.front.slot part.back.leaf part.back.slot part.limit

  -- the other part begins at the same position, and has the same pairs up to its own end and limit
  abbrev pub AreSame : Part → Part → Type 0
  AreSame part other = (other.front ≡ part.front) × (pairs_of_part other ≡ pairs_of_part part)

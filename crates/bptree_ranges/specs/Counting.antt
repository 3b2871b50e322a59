-- The numbers of pairs of a tree before a lower end, before an upper end, and before a key.
use Rattle.std.specs.Prelude.{◌≡◌, ℕ, Option, filter, length}
use Rattle.std.specs.Borrow.{Bor}
use Rattle.std.specs.declared.cmp.Ordering.{Ordering}
use Rattle.std.specs.Option.{option_copied}
use Rattle.bptree_keys.specs.Contents.{IsAscending, pairs_below}
use Rattle.bptree_keys.specs.Ranges.{falls_short, stays_below}
use Rattle.bptree_keys.specs.declared.node_id.NodeId.{NodeId}
use Rattle.bptree_nodes.specs.Inner.{Inner}
use Rattle.bptree_nodes.specs.Leaf.{Leaf}
use Rattle.bptree_nodes.specs.Slot.{Slots}
use Rattle.bptree_invariant.specs.Shape.{pairs_at}

module _ {K V A : Type 0} (cmp : K → K → Ordering) (slots : Slots (Inner K A) (Leaf K V)) (height : ℕ) (root : NodeId) where
  -- n is the number of a tree's pairs that fall short of a lower end, that stay below an upper end,
  -- or that are smaller than a key; each end is an optional reference
  abbrev pub CountsShort : Option (Bor K) → ℕ → Type 0
  CountsShort lo n = n ≡ length (filter (λ pair. falls_short cmp (option_copied lo) pair.0) (pairs_at slots height root))

  abbrev pub CountsBelow : Option (Bor K) → ℕ → Type 0
  CountsBelow hi n = n ≡ length (filter (λ pair. stays_below cmp (option_copied hi) pair.0) (pairs_at slots height root))

  abbrev pub CountsSmaller : K → ℕ → Type 0
  CountsSmaller k n = n ≡ length (pairs_below cmp (pairs_at slots height root) k)

module _ {K V : Type 0} (cmp : K → K → Ordering) (leaf : Leaf K V) where
  -- n is the number of pairs in one leaf that fall short of a lower end, that stay below an upper
  -- end, or that are smaller than a key; the leaf's pairs are assumed to ascend
  abbrev pub CountsShortIn : Option (Bor K) → ℕ → Type 0
  CountsShortIn lo n = IsAscending cmp leaf.pairs → n ≡ length (filter (λ pair. falls_short cmp (option_copied lo) pair.0) leaf.pairs)

  abbrev pub CountsBelowIn : Option (Bor K) → ℕ → Type 0
  CountsBelowIn hi n = IsAscending cmp leaf.pairs → n ≡ length (filter (λ pair. stays_below cmp (option_copied hi) pair.0) leaf.pairs)

  abbrev pub CountsSmallerIn : K → ℕ → Type 0
  CountsSmallerIn k n = IsAscending cmp leaf.pairs → n ≡ length (pairs_below cmp leaf.pairs k)

-- Parts of the contents: between two keys, and of n pairs from an index on.
use Rattle.std.specs.Prelude.{ℕ, Bool, true, false, not, Option, Some, None, List, [], filter, take, drop}
use Rattle.std.specs.Prelude.{◌&&◌}
use Rattle.std.specs.declared.cmp.Ordering.{Ordering}
use Rattle.std.specs.Ordering.{is_lt}

module _ {K : Type 0} (cmp : K → K → Ordering) where
  -- the key is below the lower bound, if a lower bound is given
  abbrev pub falls_short : Option K → K → Bool
  falls_short None k = false
  falls_short (Some lo) k = is_lt (cmp k lo)

  -- the key is below the upper bound, or no upper bound is given
  abbrev pub stays_below : Option K → K → Bool
  stays_below None k = true
  stays_below (Some hi) k = is_lt (cmp k hi)

  -- the pairs whose key is not below lo, if lo is given, and is below hi, if hi is given
  abbrev pub between : {V : Type 0} → List (K × V) → Option K → Option K → List (K × V)
  between l lo hi = filter (λ pair. not (falls_short lo pair.0) && stays_below hi pair.0) l

-- the first n members of the list without its first i members, or all of these if there are fewer than n
abbrev pub part : {X : Type 0} → List X → ℕ → ℕ → List X
part l i n = take n (drop i l)

-- the first n members from the given index on, or the empty list if no index is given
abbrev pub part_at : {X : Type 0} → List X → Option ℕ → ℕ → List X
part_at l None n = []
part_at l (Some i) n = part l i n

-- The keys to which a search is narrowed.
use Rattle.std.specs.Prelude.{◌≡◌, ◌+◌, ◌-◌, ◌^◌, ◌<◌, ◌≤◌, ℕ, min, List, length}
use Rattle.std.specs.declared.cmp.Ordering.{Ordering}
use Rattle.std.specs.declared.cmp.Ordering.TheVariants.{Greater}
use Rattle.std.specs.List.{AllWithin, HoldsAt}
use Rattle.std.specs.List.Sorted.{IsNonDecreasingBy}
use Rattle.std.specs.Ordering.{ordering_index}

-- if the comparisons with the searched key do not descend, each key from index i on is greater
abbrev pub IsAbove : {X : Type 0} → (X → Ordering) → List X → ℕ → Type 0
IsAbove ord xs i = IsNonDecreasingBy (λ y. ordering_index (ord y)) xs → AllWithin (λ y. ord y ≡ Greater) xs i (length xs)

-- the key at base is not greater than the searched key, unless base is 0, and each key from base + width on is greater
pub record IsAmong {X : Type 0} (ord : X → Ordering) (xs : List X) (base width : ℕ) : Type 0 where
  pub low : 0 < base → HoldsAt (λ y. ordering_index (ord y) ≤ 1) xs base
  pub high : IsAbove ord xs (base + width)

-- the number of keys that are not greater is at least base and less than base + width
pub record CountsAmong {X : Type 0} (ord : X → Ordering) (xs : List X) (base width : ℕ) : Type 0 where
  pub low : 0 < base → HoldsAt (λ y. ordering_index (ord y) ≤ 1) xs (base - 1)
  pub high : IsAbove ord xs (base + width - 1)

-- at least one comparison was added to the count, which saturates at the greatest `usize`
abbrev pub CountsOne : ℕ → ℕ → Type 0
CountsOne old new = min (old + 1) (2 ^ 64 - 1) ≤ new

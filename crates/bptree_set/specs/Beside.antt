-- The keys that are left of two sets that are compared, by the way that the iterator walks them.
use Rattle.std.specs.Prelude.{◌≡◌, ◌^◌, ◌<◌, ◌≤◌, ◌+◌, ℕ, Bool, true, false, List, Option, filter, length, if◌then◌else◌}
use Rattle.std.specs.declared.cmp.Ordering.{Ordering}
use Rattle.std.specs.Borrow.{Bor}
use Rattle.std.specs.Iterator.Runs.{EveryRun, ItemsMapTo}
use Rattle.std.specs.List.{filter_map}
use Rattle.std.specs.List.Sorted.{IsStrictlySortedBy}
use Rattle.std.specs.Map.Iter.{TakesFirst, deref}
use Rattle.bptree_set.specs.declared.set.sifted.By.{By}
use Rattle.bptree_set.specs.declared.set.sifted.By.TheVariants as by
use Rattle.bptree_map.specs.Keys.{holds, key_found}
use Rattle.bptree_set.specs.Joined.{IsBoundedHint}

module _ {K : Type 0} (cmp : K → K → Ordering) where
  -- the keys of a list that are kept by whether others hold them
  abbrev pub keys_sifted : (Bool → Bool) → List K → List K → List K
  keys_sifted keeps keys others = filter (λ key. keeps (holds cmp others key)) keys

  -- for each key of a list the key of another that equals it
  abbrev pub keys_fetched : List K → List K → List K
  keys_fetched keys others = filter_map (λ key. key_found cmp keys key) others

  -- both sides ascend, and the number of keys that are left of each fits
  abbrev pub AreSides : List K × List K → Type 0
  AreSides sides = IsStrictlySortedBy cmp sides.0 × IsStrictlySortedBy cmp sides.1 × (length sides.0 < 2 ^ 64) × (length sides.1 < 2 ^ 64)

  -- the keys that are kept of those that are left
  abbrev pub sifted_of : (Bool → Bool) → List K × List K → List K
  sifted_of keeps both = keys_sifted keeps both.0 both.1

  -- the keys that are left ascend; keys of the second list are looked up in the first only if
  -- shared keys are kept
  abbrev pub IsSound : (Bool → Bool) → List K → By K → Type 0
  IsSound keeps others (by.Seek keys) = IsStrictlySortedBy cmp keys
  IsSound keeps others (by.Fetch keys) = IsStrictlySortedBy cmp keys × IsStrictlySortedBy cmp others × ((held : Bool) → keeps held ≡ held)
  IsSound keeps others (by.Walk sides) = AreSides sides

  -- a step yielded the first of the keys that are kept of a list by another, and left the others of
  -- them
  abbrev pub TakesSifted : (Bool → Bool) → List K × List K → Option (Bor K) → List K × List K → Type 0
  TakesSifted keeps old r new = TakesFirst deref (keys_sifted keeps old.0 old.1) r (keys_sifted keeps new.0 new.1)

  -- each run of such steps yields the keys that are kept of those that were left, in order
  abbrev pub ShowsSifted : (Bool → Bool) → Type 0
  ShowsSifted keeps = EveryRun (TakesSifted keeps) (λ p. ItemsMapTo p deref (keys_sifted keeps p.from.0 p.from.1))

  -- a step yielded the first of the keys that a list has for those of another, and left the others
  -- of them
  abbrev pub TakesFetched : List K × List K → Option (Bor K) → List K × List K → Type 0
  TakesFetched old r new = TakesFirst deref (keys_fetched old.0 old.1) r (keys_fetched new.0 new.1)

-- the keys that are left of both sets
abbrev pub left_of_both : {K : Type 0} → List K → By K → List K × List K
left_of_both others (by.Seek keys) = (keys, others)
left_of_both others (by.Fetch keys) = (others, keys)
left_of_both others (by.Walk sides) = sides

-- the number of keys that are kept of so many shared and so many missing keys
abbrev pub count_kept : (Bool → Bool) → ℕ → ℕ → ℕ
count_kept keeps held lacking = (if keeps true then held else 0) + (if keeps false then lacking else 0)

-- the hint bounds the number of keys that are kept of a list, for any number that another list
-- shares; both lists have these lengths
abbrev pub BoundsKept : (Bool → Bool) → ℕ → ℕ → ℕ × Option ℕ → Type 0
BoundsKept keeps first second reported = (held lacking : ℕ) → held ≤ second → held + lacking ≡ first → IsBoundedHint (count_kept keeps held lacking) reported

-- The keys that one of two ascending lists holds, and the other does not.
use Rattle.std.specs.Prelude.{◌≡◌, ◌+◌, ◌≤◌, ◌^◌, ℕ, List, Option, Some, None, MatchOption}
use Rattle.std.specs.declared.cmp.Ordering.{Ordering}
use Rattle.std.specs.Borrow.{Bor}
use Rattle.std.specs.Int.{abs_diff}
use Rattle.std.specs.List.{filter_map}
use Rattle.std.specs.Map.Iter.{TakesFirst, deref}
use Rattle.bptree_merge_iter.specs.Merge.{merged}

-- the item of a step of a merge if it is of one list alone
abbrev pub alone : {K : Type 0} → Option K → Option K → Option K
alone None second = second
alone (Some key) None = Some key
alone (Some key) (Some other) = None

module _ {K : Type 0} (cmp : K → K → Ordering) where
  -- the keys of both lists in their order, without those that are equal
  abbrev pub symmetric : List K → List K → List K
  symmetric first second = filter_map (λ pair. alone pair.0 pair.1) (merged cmp first second)

  -- a step yielded the first of those keys of the rests of both lists
  abbrev pub IsSymmetricStep : List K × List K → Option (Bor K) → List K × List K → Type 0
  IsSymmetricStep old r new = TakesFirst deref (symmetric old.0 old.1) r (symmetric new.0 new.1)

-- the hint is at least the difference of both numbers, and at most their sum if that fits
abbrev pub IsHintOfBoth : ℕ → ℕ → ℕ × Option ℕ → Type 0
IsHintOfBoth m n hint = (hint.0 ≡ abs_diff m n) × MatchOption hint.1 (2 ^ 64 ≤ m + n) (λ sum. sum ≡ m + n)

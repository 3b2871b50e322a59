-- The union of two ascending lists of keys.
use Rattle.std.specs.Prelude.{◌≡◌, ℕ, ◌+◌, ◌≤◌, ◌^◌, List, Option, MatchOption, length, max}
use Rattle.std.specs.declared.cmp.Ordering.{Ordering}
use Rattle.std.specs.Borrow.{Bor}
use Rattle.std.specs.Map.Iter.{TakesFirst, deref}
use Rattle.std.specs.Option.{option_map, option_or}
use Rattle.bptree_merge_iter.specs.Merge.{keys_given, merge_step, merged}

module _ {K : Type 0} (cmp : K → K → Ordering) where
  -- the keys of both lists in their order: of two equal keys the first list's
  abbrev pub union : List K → List K → List K
  union first second = keys_given (merged cmp first second)

  -- a step yielded the first key of the union of the rests of both lists, and left of each what a
  -- step of their merge leaves
  abbrev pub IsUnionStep : List K × List K → Option (Bor K) → List K × List K → Type 0
  IsUnionStep old r new =
      let step = merge_step cmp old.0 old.1 in
      (option_map deref r ≡ option_or step.first step.second) × (new ≡ step.left) × TakesFirst deref (union old.0 old.1) r (union new.0 new.1)

-- the hint about the length of the union of two lists: at least the longer one's, and at most the
-- sum of both if that fits
abbrev pub IsBetweenLengths : {X : Type 0} → List X → List X → ℕ × Option ℕ → Type 0
IsBetweenLengths first second reported =
    (reported.0 ≡ max (length first) (length second)) × MatchOption reported.1 (2 ^ 64 ≤ length first + length second) (λ sum. sum ≡ length first + length second)

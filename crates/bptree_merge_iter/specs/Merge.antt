-- The merge of two lists, step by step and as a whole.
use Rattle.std.specs.Prelude.{ℕ, ◌+◌, ◌<◌, ◌≤◌, List, [], ◌∷◌, ◌||◌, ◌⊎◌, Option, Some, None, drop, length, map, slice_get, ◌≡◌, IfSome}
use Rattle.std.specs.Cmp.{IsTotalOrder}
use Rattle.std.specs.declared.cmp.Ordering.{Ordering}
use Rattle.std.specs.declared.cmp.Ordering.TheVariants.{Less, Equal, Greater}
use Rattle.std.specs.Ordering.{is_eq, match_ordering}
use Rattle.std.specs.Borrow.{Bor}
use Rattle.std.specs.Fn.{FnReturnsAtPair, Shared}
use Rattle.std.specs.List.{AllByRecursion, filter_map, list_any}
use Rattle.std.specs.List.Sorted.{IsStrictlySortedBy}
use Rattle.std.specs.Option.{option_map, option_or}

-- the elements that one step yields of two lists, and the rest of both lists
pub record MergeStep (A : Type 0) : Type 0 where
  pub first : Option A
  pub second : Option A
  pub left : List A × List A

-- the closure returns the `order` of the elements that two items show
abbrev pub Orders : {F T E : Type 0} → Shared F (Bor T × (Bor T × Unit {0})) Ordering → F → (T → E) → (E → E → Ordering) → Type 0
Orders {F} {T} g f shows order = (x y : T) (o : Ordering) → FnReturnsAtPair g f x y o → o ≡ order (shows x) (shows y)

module _ {A : Type 0} where
  -- the smaller head alone, or both heads if they are equal
  abbrev pub step_by : Ordering → A → List A → A → List A → MergeStep A
  step_by Less x xs y ys = record { first = Some x; second = None; left = (xs, y ∷ ys) }
  step_by Equal x xs y ys = record { first = Some x; second = Some y; left = (xs, ys) }
  step_by Greater x xs y ys = record { first = None; second = Some y; left = (x ∷ xs, ys) }

  -- one step of the merge of two lists: if one list is empty, the head of the other alone
  abbrev pub merge_step : (A → A → Ordering) → List A → List A → MergeStep A
  merge_step order [] [] = record { first = None; second = None; left = ([], []) }
  merge_step order (x ∷ xs) [] = record { first = Some x; second = None; left = (xs, []) }
  merge_step order [] (y ∷ ys) = record { first = None; second = Some y; left = ([], ys) }
  merge_step order (x ∷ xs) (y ∷ ys) = step_by (order x y) x xs y ys

module _ {A : Type 0} (order : A → A → Ordering) where
  -- the results of all steps for a first list that begins with x and a second list; `rest` computes the results for the rest
  -- of the first list
  abbrev pub merged_from : A → (List A → List (Option A × Option A)) → List A → List (Option A × Option A)
  merged_from x rest [] = (Some x, None) ∷ rest []
  merged_from x rest (y ∷ ys) =
      match_ordering (order x y) ((Some x, None) ∷ rest (y ∷ ys)) ((Some x, Some y) ∷ rest ys) ((None, Some y) ∷ merged_from x rest ys)

  -- the results of all steps for two lists, up to the end of both
  abbrev pub merged : List A → List A → List (Option A × Option A)
  merged [] ys = map (λ y. (None, Some y)) ys
  merged (x ∷ xs) ys = merged_from x (merged xs) ys

  -- if a step yields an element of each list, the two are equal
  abbrev pub IsPairOfEqual : Option A × Option A → Type 0
  IsPairOfEqual pair = IfSome pair.0 (λ x. IfSome pair.1 (λ y. order x y ≡ Equal))

-- the elements that the steps yield of the first list, of the second list, and of both: of two equal ones the first list's
module _ {A : Type 0} where
  abbrev pub first_members : List (Option A × Option A) → List A
  first_members steps = filter_map (λ pair. pair.0) steps

  abbrev pub seconds : List (Option A × Option A) → List A
  seconds steps = filter_map (λ pair. pair.1) steps

  abbrev pub keys_given : List (Option A × Option A) → List A
  keys_given steps = filter_map (λ pair. option_or pair.0 pair.1) steps

-- both lists together have at least as many keys as either list, and at most as many as the sum
pub record IsCountOfBoth (first second both : ℕ) : Type 0 where
  pub no_fewer : first ≤ both
  pub no_fewer_too : second ≤ both
  pub no_more : both ≤ first + second

module _ {F T E : Type 0} (calls : Shared F (Bor T × (Bor T × Unit {0})) Ordering) (f : F) (shows : T → E) where
  -- if the closure computes an order, a call yields the result of a step by the order, and leaves the rest of the step
  abbrev pub StepsByOrder : List E × List E → Option T × Option T → List E × List E → Type 0
  StepsByOrder old given new = (order : E → E → Ordering) → Orders calls f shows order
      → let step = merge_step order old.0 old.1 in
      (option_map shows given.0 ≡ step.first) × (option_map shows given.1 ≡ step.second) × (new ≡ step.left)

-- if one list is empty, a call yields the head of the other, whatever the closure returns
abbrev pub StepsAlone : {T E : Type 0} → (T → E) → List E × List E → Option T × Option T → List E × List E → Type 0
StepsAlone shows old given new = (old.0 ≡ []) ⊎ (old.1 ≡ [])
    → (option_map shows given.0 ≡ slice_get old.0 0) × (option_map shows given.1 ≡ slice_get old.1 0) × (new ≡ (drop 1 old.0, drop 1 old.1))

-- laws of all steps of a merge
module _ (K : Type 0) where
  -- the results of all steps are the result of one step, followed by the results of all steps for the rest
  abbrev pub MergedIsStepwise : Type 0
  MergedIsStepwise = (order : K → K → Ordering) → (us vs : List K) → 0 < length us + length vs
      → let step = merge_step order us vs in
      merged order us vs ≡ (step.first, step.second) ∷ merged order step.left.0 step.left.1

  -- the steps yield each list whole
  abbrev pub MergedGivesFirsts : Type 0
  MergedGivesFirsts = (order : K → K → Ordering) → (us vs : List K) → first_members (merged order us vs) ≡ us

  abbrev pub MergedGivesSeconds : Type 0
  MergedGivesSeconds = (order : K → K → Ordering) → (us vs : List K) → seconds (merged order us vs) ≡ vs

  -- two elements that a step yields together are equal
  abbrev pub MergedPairsEqual : Type 0
  MergedPairsEqual = (order : K → K → Ordering) → (us vs : List K) → AllByRecursion (IsPairOfEqual order) (merged order us vs)

  -- the keys that the steps yield of ascending lists ascend
  abbrev pub MergedAscends : Type 0
  MergedAscends = (order : K → K → Ordering) → (us vs : List K) → IsTotalOrder order → IsStrictlySortedBy order us → IsStrictlySortedBy order vs → IsStrictlySortedBy order (keys_given (merged order us vs))

  -- the steps yield a key if and only if it is in either list
  abbrev pub MergedHasBoth : Type 0
  MergedHasBoth = (order : K → K → Ordering) → (us vs : List K) → (k : K) → IsTotalOrder order → list_any (λ x. is_eq (order x k)) (keys_given (merged order us vs)) ≡ (list_any (λ x. is_eq (order x k)) us || list_any (λ x. is_eq (order x k)) vs)

  -- the number of keys that the steps yield is within the bounds for both lists
  abbrev pub MergedCountsBoth : Type 0
  MergedCountsBoth = (order : K → K → Ordering) → (us vs : List K) → IsCountOfBoth (length us) (length vs) (length (keys_given (merged order us vs)))

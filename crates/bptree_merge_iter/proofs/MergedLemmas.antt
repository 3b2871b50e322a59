-- The results of all steps of a merge: each list whole, ascending keys, and the keys of both lists.
use Rattle.std.proofs.Common.{◌≡◌, ℕ, suc, ◌<◌, ◌+◌, length, arith, ◌∙◌, sym, ap, List, [], ◌∷◌, Option, Some, None, refl, map, Bool, true, false, ◌||◌}
use Rattle.std.proofs.Math.Bool.{or_assoc}
use Rattle.std.proofs.lemmas.Map.Keys.{sorted_head, sorted_tail}
use Rattle.std.specs.declared.cmp.Ordering.{Ordering}
use Rattle.std.specs.declared.cmp.Ordering.TheVariants.{Less, Equal, Greater}
use Rattle.std.specs.Cmp.{IsTotalOrder}
use Rattle.std.specs.List.{AllByRecursion, list_any}
use Rattle.std.specs.List.Sorted.{IsStrictlySortedBy}
use Rattle.std.specs.Map.Iter.{TakesFirst}
use Rattle.std.specs.Option.{option_map, option_or}
use Rattle.std.specs.Ordering.{is_eq, match_ordering}
use Rattle.bptree_keys.proofs.Ascending.{ascending_cons, less_turned}
use Rattle.bptree_keys.proofs.PieceLemmas.{AllByRecursion-weaker}
use Rattle.bptree_merge_iter.specs.Merge.{merge_step, step_by, merged, merged_from, first_members, seconds, keys_given, IsPairOfEqual, IsCountOfBoth}

module _ {A : Type 0} where
  -- if the first list is empty, the steps yield the second list
  firsts_alone : (ys : List A) → first_members (map (λ y. (None, Some y)) ys) ≡ []
  firsts_alone [] = refl
  firsts_alone (y ∷ ys) = firsts_alone ys

  seconds_alone : (ys : List A) → seconds (map (λ y. (None, Some y)) ys) ≡ ys
  seconds_alone [] = refl
  seconds_alone (y ∷ ys) = ap (λ zs. y ∷ zs) (seconds_alone ys)

  pub keys_alone : (ys : List A) → keys_given (map (λ y. (None, Some y)) ys) ≡ ys
  keys_alone [] = refl
  keys_alone (y ∷ ys) = ap (λ zs. y ∷ zs) (keys_alone ys)

module _ {A : Type 0} (order : A → A → Ordering) where
  -- the steps yield the first list whole and in order
  firsts_from : (x : A) (xs : List A) (rest : List A → List (Option A × Option A)) → ((zs : List A) → first_members (rest zs) ≡ xs) → (ys : List A) → first_members (merged_from order x rest ys) ≡ x ∷ xs
  firsts_from x xs rest later [] = ap (λ zs. x ∷ zs) (later [])
  firsts_from x xs rest later (y ∷ ys) =
      elim (order x y) as (λ o. first_members (match_ordering o ((Some x, None) ∷ rest (y ∷ ys)) ((Some x, Some y) ∷ rest ys) ((None, Some y) ∷ merged_from order x rest ys)) ≡ x ∷ xs) [
        | Less ↦ ap (λ zs. x ∷ zs) (later (y ∷ ys))
        | Equal ↦ ap (λ zs. x ∷ zs) (later ys)
        | Greater ↦ firsts_from x xs rest later ys
      ]

  pub firsts_merged : (xs ys : List A) → first_members (merged order xs ys) ≡ xs
  firsts_merged [] ys = firsts_alone ys
  firsts_merged (x ∷ xs) ys = firsts_from x xs (merged order xs) (firsts_merged xs) ys

  -- the steps yield the second list whole and in order
  seconds_from : (x : A) (rest : List A → List (Option A × Option A)) → ((zs : List A) → seconds (rest zs) ≡ zs) → (ys : List A) → seconds (merged_from order x rest ys) ≡ ys
  seconds_from x rest later [] = later []
  seconds_from x rest later (y ∷ ys) =
      elim (order x y) as (λ o. seconds (match_ordering o ((Some x, None) ∷ rest (y ∷ ys)) ((Some x, Some y) ∷ rest ys) ((None, Some y) ∷ merged_from order x rest ys)) ≡ y ∷ ys) [
        | Less ↦ later (y ∷ ys)
        | Equal ↦ ap (λ zs. y ∷ zs) (later ys)
        | Greater ↦ ap (λ zs. y ∷ zs) (seconds_from x rest later ys)
      ]

  pub seconds_merged : (xs ys : List A) → seconds (merged order xs ys) ≡ ys
  seconds_merged [] ys = seconds_alone ys
  seconds_merged (x ∷ xs) ys = seconds_from x (merged order xs) (seconds_merged xs) ys

  -- a step yields two heads together only if they are equal
  equal_at : (x : A) (rest : List A → List (Option A × Option A)) → ((zs : List A) → AllByRecursion (IsPairOfEqual order) (rest zs)) → (y : A) (ys : List A) → AllByRecursion (IsPairOfEqual order) (merged_from order x rest ys) → (o : Ordering) → order x y ≡ o → AllByRecursion (IsPairOfEqual order) (match_ordering o ((Some x, None) ∷ rest (y ∷ ys)) ((Some x, Some y) ∷ rest ys) ((None, Some y) ∷ merged_from order x rest ys))
  equal_at x rest later y ys after Less is = (tt, later (y ∷ ys))
  equal_at x rest later y ys after Equal is = (is, later ys)
  equal_at x rest later y ys after Greater is = (tt, after)

  equal_from : (x : A) (rest : List A → List (Option A × Option A)) → ((zs : List A) → AllByRecursion (IsPairOfEqual order) (rest zs)) → (ys : List A) → AllByRecursion (IsPairOfEqual order) (merged_from order x rest ys)
  equal_from x rest later [] = (tt, later [])
  equal_from x rest later (y ∷ ys) = equal_at x rest later y ys (equal_from x rest later ys) (order x y) refl

  equal_alone : (ys : List A) → AllByRecursion (IsPairOfEqual order) (map (λ y. (None, Some y)) ys)
  equal_alone [] = tt
  equal_alone (y ∷ ys) = (tt, equal_alone ys)

  pub equal_merged : (xs ys : List A) → AllByRecursion (IsPairOfEqual order) (merged order xs ys)
  equal_merged [] ys = equal_alone ys
  equal_merged (x ∷ xs) ys = equal_from x (merged order xs) (equal_merged xs) ys

  -- the results of all steps are the result of one step, followed by the results for the rest
  steps_at : (x : A) (xs : List A) (y : A) (ys : List A) (o : Ordering) → match_ordering o ((Some x, None) ∷ merged order xs (y ∷ ys)) ((Some x, Some y) ∷ merged order xs ys) ((None, Some y) ∷ merged order (x ∷ xs) ys) ≡ ((step_by o x xs y ys).first, (step_by o x xs y ys).second) ∷ merged order (step_by o x xs y ys).left.0 (step_by o x xs y ys).left.1
  steps_at x xs y ys Less = refl
  steps_at x xs y ys Equal = refl
  steps_at x xs y ys Greater = refl

  pub steps_merged : (us vs : List A) → 0 < length us + length vs → merged order us vs ≡ ((merge_step order us vs).first, (merge_step order us vs).second) ∷ merged order (merge_step order us vs).left.0 (merge_step order us vs).left.1
  steps_merged [] [] some = absurd (omega (arith, some))
  steps_merged (x ∷ us) [] some = refl
  steps_merged [] (y ∷ vs) some = refl
  steps_merged (x ∷ us) (y ∷ vs) some = steps_at x us y vs (order x y)

  -- a property of each key of both lists holds for each key that the steps yield
  module _ (P : A → Type 0) where
    all_from : (x : A) (rest : List A → List (Option A × Option A)) → P x → ((zs : List A) → AllByRecursion P zs → AllByRecursion P (keys_given (rest zs))) → (ys : List A) → AllByRecursion P ys → AllByRecursion P (keys_given (merged_from order x rest ys))
    all_from x rest first later [] all = (first, later [] tt)
    all_from x rest first later (y ∷ ys) all =
        elim (order x y) as (λ o. AllByRecursion P (keys_given (match_ordering o ((Some x, None) ∷ rest (y ∷ ys)) ((Some x, Some y) ∷ rest ys) ((None, Some y) ∷ merged_from order x rest ys)))) [
          | Less ↦ (first, later (y ∷ ys) all)
          | Equal ↦ (first, later ys all.1)
          | Greater ↦ (all.0, all_from x rest first later ys all.1)
        ]

    all_merged : (xs ys : List A) → AllByRecursion P xs → AllByRecursion P ys → AllByRecursion P (keys_given (merged order xs ys))
    all_merged [] ys first second = rw (keys_alone ys) second
    all_merged (x ∷ xs) ys first second = all_from x (merged order xs) first.0 (λ zs all. all_merged xs zs first.1 all) ys second

module _ {A : Type 0} (order : A → A → Ordering) (total : IsTotalOrder order) where
  -- the keys that the steps yield of two ascending lists ascend
  ascending_at : (x : A) (xs : List A) → IsStrictlySortedBy order (x ∷ xs) → ((zs : List A) → IsStrictlySortedBy order zs → IsStrictlySortedBy order (keys_given (merged order xs zs))) → (y : A) (ys : List A) → IsStrictlySortedBy order (y ∷ ys) → IsStrictlySortedBy order (keys_given (merged order (x ∷ xs) ys)) → (o : Ordering) → order x y ≡ o → IsStrictlySortedBy order (keys_given (match_ordering o ((Some x, None) ∷ merged order xs (y ∷ ys)) ((Some x, Some y) ∷ merged order xs ys) ((None, Some y) ∷ merged order (x ∷ xs) ys)))
  ascending_at x xs first later y ys second after Less is =
      let above = AllByRecursion-weaker (λ z. order y z ≡ Less) (λ z. order x z ≡ Less) (λ z less. total.trans x y z is less) ys (sorted_head order y ys second) in
      ascending_cons order x (keys_given (merged order xs (y ∷ ys))) (all_merged order (λ z. order x z ≡ Less) xs (y ∷ ys) (sorted_head order x xs first) (is, above)) (later (y ∷ ys) second)
  ascending_at x xs first later y ys second after Equal is =
      let above = AllByRecursion-weaker (λ z. order y z ≡ Less) (λ z. order x z ≡ Less) (λ z less. total.congr x y z is ∙ less) ys (sorted_head order y ys second) in
      ascending_cons order x (keys_given (merged order xs ys)) (all_merged order (λ z. order x z ≡ Less) xs ys (sorted_head order x xs first) above) (later ys (sorted_tail order y ys second))
  ascending_at x xs first later y ys second after Greater is =
      let less = less_turned order total x y is in
      let above = AllByRecursion-weaker (λ z. order x z ≡ Less) (λ z. order y z ≡ Less) (λ z more. total.trans y x z less more) xs (sorted_head order x xs first) in
      ascending_cons order y (keys_given (merged order (x ∷ xs) ys)) (all_merged order (λ z. order y z ≡ Less) (x ∷ xs) ys (less, above) (sorted_head order y ys second)) after

  ascending_from : (x : A) (xs : List A) → IsStrictlySortedBy order (x ∷ xs) → ((zs : List A) → IsStrictlySortedBy order zs → IsStrictlySortedBy order (keys_given (merged order xs zs))) → (ys : List A) → IsStrictlySortedBy order ys → IsStrictlySortedBy order (keys_given (merged order (x ∷ xs) ys))
  ascending_from x xs first later [] second = ascending_cons order x (keys_given (merged order xs [])) (all_merged order (λ z. order x z ≡ Less) xs [] (sorted_head order x xs first) tt) (later [] second)
  ascending_from x xs first later (y ∷ ys) second = ascending_at x xs first later y ys second (ascending_from x xs first later ys (sorted_tail order y ys second)) (order x y) refl

  pub ascending_merged : (xs ys : List A) → IsStrictlySortedBy order xs → IsStrictlySortedBy order ys → IsStrictlySortedBy order (keys_given (merged order xs ys))
  ascending_merged [] ys first second = rw (keys_alone ys) second
  ascending_merged (x ∷ xs) ys first second = ascending_from x xs first (λ zs later. ascending_merged xs zs (sorted_tail order x xs first) later) ys second

-- laws of disjunctions, in the forms that the steps need
or_none : (a b : Bool) → (a || (b || false)) ≡ (a || b || false)
or_none true b = refl
or_none false b = refl

or_twice : (a b c : Bool) → (a || (b || c)) ≡ (a || b || (a || c))
or_twice true b c = refl
or_twice false b c = refl

or_moved : (a b c d : Bool) → (c || (a || b || d)) ≡ (a || b || (c || d))
or_moved true b true d = refl
or_moved true b false d = refl
or_moved false true true d = refl
or_moved false true false d = refl
or_moved false false c d = refl

module _ {A : Type 0} (order : A → A → Ordering) (total : IsTotalOrder order) (k : A) where
  -- whether a key of the list equals k
  abbrev here : List A → Bool
  here xs = list_any (λ x. is_eq (order x k)) xs

  -- the steps yield a key if and only if it is in one of the lists
  present_at : (x : A) (xs : List A) → ((zs : List A) → here (keys_given (merged order xs zs)) ≡ (here xs || here zs)) → (y : A) (ys : List A) → here (keys_given (merged order (x ∷ xs) ys)) ≡ (here (x ∷ xs) || here ys) → (o : Ordering) → order x y ≡ o → here (keys_given (match_ordering o ((Some x, None) ∷ merged order xs (y ∷ ys)) ((Some x, Some y) ∷ merged order xs ys) ((None, Some y) ∷ merged order (x ∷ xs) ys))) ≡ (here (x ∷ xs) || here (y ∷ ys))
  present_at x xs later y ys after Less is = ap (λ b. is_eq (order x k) || b) (later (y ∷ ys)) ∙ sym (or_assoc (is_eq (order x k)) (here xs) (here (y ∷ ys)))
  present_at x xs later y ys after Equal is =
      ap (λ b. is_eq (order x k) || b) (later ys) ∙ or_twice (is_eq (order x k)) (here xs) (here ys) ∙ ap (λ o. is_eq (order x k) || here xs || (is_eq o || here ys)) (total.congr x y k is)
  present_at x xs later y ys after Greater is = ap (λ b. is_eq (order y k) || b) after ∙ or_moved (is_eq (order x k)) (here xs) (is_eq (order y k)) (here ys)

  present_from : (x : A) (xs : List A) → ((zs : List A) → here (keys_given (merged order xs zs)) ≡ (here xs || here zs)) → (ys : List A) → here (keys_given (merged order (x ∷ xs) ys)) ≡ (here (x ∷ xs) || here ys)
  present_from x xs later [] = ap (λ b. is_eq (order x k) || b) (later []) ∙ or_none (is_eq (order x k)) (here xs)
  present_from x xs later (y ∷ ys) = present_at x xs later y ys (present_from x xs later ys) (order x y) refl

  pub present_merged : (xs ys : List A) → here (keys_given (merged order xs ys)) ≡ (here xs || here ys)
  present_merged [] ys = ap here (keys_alone ys)
  present_merged (x ∷ xs) ys = present_from x xs (present_merged xs) ys

module _ {A : Type 0} (order : A → A → Ordering) where
  -- the bounds of the number of keys that the steps yield
  counted_from : (x : A) (count : ℕ) (rest : List A → List (Option A × Option A)) → ((zs : List A) → IsCountOfBoth count (length zs) (length (keys_given (rest zs)))) → (ys : List A) → IsCountOfBoth (suc count) (length ys) (length (keys_given (merged_from order x rest ys)))
  counted_from x count rest later [] = let r = later [] in record { no_fewer = omega arith; no_fewer_too = omega arith; no_more = omega arith }
  counted_from x count rest later (y ∷ ys) =
      elim (order x y) as (λ o. IsCountOfBoth (suc count) (length (y ∷ ys)) (length (keys_given (match_ordering o ((Some x, None) ∷ rest (y ∷ ys)) ((Some x, Some y) ∷ rest ys) ((None, Some y) ∷ merged_from order x rest ys))))) [
        | Less ↦ let r = later (y ∷ ys) in record { no_fewer = omega arith; no_fewer_too = omega arith; no_more = omega arith }
        | Equal ↦ let r = later ys in record { no_fewer = omega arith; no_fewer_too = omega arith; no_more = omega arith }
        | Greater ↦ let r = counted_from x count rest later ys in record { no_fewer = omega arith; no_fewer_too = omega arith; no_more = omega arith }
      ]

  pub counted_merged : (xs ys : List A) → IsCountOfBoth (length xs) (length ys) (length (keys_given (merged order xs ys)))
  counted_merged [] ys = let whole = ap length (keys_alone ys) in record { no_fewer = omega arith; no_fewer_too = omega (arith, whole); no_more = omega (arith, whole) }
  counted_merged (x ∷ xs) ys = counted_from x (length xs) (merged order xs) (counted_merged xs) ys

some_inside : {A : Type 0} {x y : A} → Some x ≡ Some y → y ≡ x
some_inside h = cc

-- the item that a step yields shows the first key, and the step leaves the other keys; if a step yields two items, this is
-- the first list's
module _ {A T : Type 0} (shows : T → A) (order : A → A → Ordering) where
  keys_step-at : (x : A) (xs : List A) (y : A) (ys : List A) (o : Ordering) (r q : Option T) → option_map shows r ≡ (step_by o x xs y ys).first → option_map shows q ≡ (step_by o x xs y ys).second → TakesFirst shows (keys_given (match_ordering o ((Some x, None) ∷ merged order xs (y ∷ ys)) ((Some x, Some y) ∷ merged order xs ys) ((None, Some y) ∷ merged order (x ∷ xs) ys))) (option_or r q) (keys_given (merged order (step_by o x xs y ys).left.0 (step_by o x xs y ys).left.1))
  keys_step-at x xs y ys Less None q e f = cc
  keys_step-at x xs y ys Less (Some a) q e f = ap (λ z. z ∷ keys_given (merged order xs (y ∷ ys))) (some_inside e)
  keys_step-at x xs y ys Equal None q e f = cc
  keys_step-at x xs y ys Equal (Some a) q e f = ap (λ z. z ∷ keys_given (merged order xs ys)) (some_inside e)
  keys_step-at x xs y ys Greater (Some a) q e f = cc
  keys_step-at x xs y ys Greater None None e f = cc
  keys_step-at x xs y ys Greater None (Some b) e f = ap (λ z. z ∷ keys_given (merged order (x ∷ xs) ys)) (some_inside f)

  pub keys_step : (us vs : List A) (r q : Option T) (left : List A × List A) → option_map shows r ≡ (merge_step order us vs).first → option_map shows q ≡ (merge_step order us vs).second → left ≡ (merge_step order us vs).left → TakesFirst shows (keys_given (merged order us vs)) (option_or r q) (keys_given (merged order left.0 left.1))
  keys_step [] [] None None left e f k = rw k (refl, refl)
  keys_step [] [] (Some a) q left e f k = cc
  keys_step [] [] None (Some b) left e f k = cc
  keys_step (x ∷ us) [] None q left e f k = cc
  keys_step (x ∷ us) [] (Some a) q left e f k = rw k (ap (λ z. z ∷ keys_given (merged order us [])) (some_inside e))
  keys_step [] (y ∷ vs) None None left e f k = cc
  keys_step [] (y ∷ vs) (Some a) q left e f k = cc
  keys_step [] (y ∷ vs) None (Some b) left e f k = rw k (ap (λ z. z ∷ keys_given (merged order [] vs)) (some_inside f))
  keys_step (x ∷ us) (y ∷ vs) r q left e f k = rw k (keys_step-at x us y vs (order x y) r q e f)

-- The items that the steps of a merge yield of one list alone.
use Rattle.std.proofs.Common.{◌≡◌, ◌∙◌, ◌+◌, ◌≤◌, ◌<◌, ◌||◌, ℕ, suc, arith, List, [], ◌∷◌, Bool, true, false, not, cond, length, map, filter_map, Option, Some, None, option_map, refl, sym, ap}
use Rattle.std.proofs.lemmas.Map.Keys.{sorted_head, sorted_tail}
use Rattle.std.specs.declared.cmp.Ordering.{Ordering}
use Rattle.std.specs.declared.cmp.Ordering.TheVariants.{Less, Equal, Greater}
use Rattle.std.specs.Cmp.{IsTotalOrder}
use Rattle.std.specs.List.{AllByRecursion}
use Rattle.std.specs.List.Sorted.{IsStrictlySortedBy}
use Rattle.std.specs.Borrow.{Bor}
use Rattle.std.specs.Iterator.{MakesProgress, item_count}
use Rattle.std.specs.Map.Iter.{TakesFirst}
use Rattle.std.specs.Ordering.{is_eq, match_ordering}
use Rattle.bptree_keys.proofs.Ascending.{ascending_cons, less_turned}
use Rattle.bptree_keys.proofs.PieceLemmas.{AllByRecursion-weaker}
use Rattle.bptree_merge_iter.specs.Merge.{first_members, merge_step, merged, merged_from, seconds, step_by}
use Rattle.bptree_merge_iter.proofs.MergedLemmas.{firsts_merged, seconds_merged}
use Rattle.bptree_map.specs.Keys.{holds}
use Rattle.bptree_set.specs.Joined.{IsBoundedHint}
use Rattle.bptree_set.specs.Symmetric.{IsHintOfBoth, IsSymmetricStep, alone, symmetric}
use Rattle.bptree_set.proofs.MemberLemmas.{apart}
use Rattle.bptree_set.proofs.UnionLemmas.{sum_bounds}

-- the items that steps yielded of one list alone
abbrev lone : {A : Type 0} → List (Option A × Option A) → List A
lone steps = filter_map (λ pair. alone pair.0 pair.1) steps

lone_second : {A : Type 0} (ys : List A) → lone (map (λ y. (None, Some y)) ys) ≡ ys
lone_second [] = refl
lone_second (y ∷ ys) = ap (λ zs. y ∷ zs) (lone_second ys)

some_inside : {A : Type 0} {x y : A} → Some x ≡ Some y → y ≡ x
some_inside h = cc

-- a step that yields two items leaves the list as it is, and one that yields one item yields the
-- first
abbrev pub Gives : {A T : Type 0} → (T → A) → List A → Option T → Option T → List A → Type 0
Gives shows old None q new = TakesFirst shows old q new
Gives shows old (Some a) None new = old ≡ shows a ∷ new
Gives shows old (Some a) (Some b) new = old ≡ new

module _ {A T : Type 0} (shows : T → A) (order : A → A → Ordering) where
  lone_at : (x : A) (xs : List A) (y : A) (ys : List A) (o : Ordering) (r q : Option T) → option_map shows r ≡ (step_by o x xs y ys).first → option_map shows q ≡ (step_by o x xs y ys).second → Gives shows (lone (match_ordering o ((Some x, None) ∷ merged order xs (y ∷ ys)) ((Some x, Some y) ∷ merged order xs ys) ((None, Some y) ∷ merged order (x ∷ xs) ys))) r q (symmetric order (step_by o x xs y ys).left.0 (step_by o x xs y ys).left.1)
  lone_at x xs y ys Less None q e f = cc
  lone_at x xs y ys Less (Some a) None e f = ap (λ z. z ∷ symmetric order xs (y ∷ ys)) (some_inside e)
  lone_at x xs y ys Less (Some a) (Some b) e f = cc
  lone_at x xs y ys Equal None q e f = cc
  lone_at x xs y ys Equal (Some a) None e f = cc
  lone_at x xs y ys Equal (Some a) (Some b) e f = refl
  lone_at x xs y ys Greater (Some a) q e f = cc
  lone_at x xs y ys Greater None None e f = cc
  lone_at x xs y ys Greater None (Some b) e f = ap (λ z. z ∷ symmetric order (x ∷ xs) ys) (some_inside f)

  pub lone_step : (us vs : List A) (r q : Option T) (left : List A × List A) → option_map shows r ≡ (merge_step order us vs).first → option_map shows q ≡ (merge_step order us vs).second → left ≡ (merge_step order us vs).left → Gives shows (symmetric order us vs) r q (symmetric order left.0 left.1)
  lone_step [] [] None None left e f k = rw k (refl, refl)
  lone_step [] [] (Some a) q left e f k = cc
  lone_step [] [] None (Some b) left e f k = cc
  lone_step (x ∷ us) [] None q left e f k = cc
  lone_step (x ∷ us) [] (Some a) (Some b) left e f k = cc
  lone_step (x ∷ us) [] (Some a) None left e f k = rw k (ap (λ z. z ∷ symmetric order us []) (some_inside e))
  lone_step [] (y ∷ vs) None None left e f k = cc
  lone_step [] (y ∷ vs) (Some a) q left e f k = cc
  lone_step [] (y ∷ vs) None (Some b) left e f k = rw k (ap (λ z. z ∷ symmetric order [] vs) (some_inside f))
  lone_step (x ∷ us) (y ∷ vs) r q left e f k = rw k (lone_at x us y vs (order x y) r q e f)

  -- a step that yields two items leaves fewer of both
  fewer_at : (x : A) (xs : List A) (y : A) (ys : List A) (o : Ordering) (a b : T) → option_map shows (Some a) ≡ (step_by o x xs y ys).first → option_map shows (Some b) ≡ (step_by o x xs y ys).second → length (step_by o x xs y ys).left.0 + length (step_by o x xs y ys).left.1 < length (x ∷ xs) + length (y ∷ ys)
  fewer_at x xs y ys Less a b e f = cc
  fewer_at x xs y ys Equal a b e f = omega arith
  fewer_at x xs y ys Greater a b e f = cc

  pub fewer_left : (us vs : List A) (a b : T) (left : List A × List A) → option_map shows (Some a) ≡ (merge_step order us vs).first → option_map shows (Some b) ≡ (merge_step order us vs).second → left ≡ (merge_step order us vs).left → length left.0 + length left.1 < length us + length vs
  fewer_left [] [] a b left e f k = cc
  fewer_left (x ∷ us) [] a b left e f k = cc
  fewer_left [] (y ∷ vs) a b left e f k = cc
  fewer_left (x ∷ us) (y ∷ vs) a b left e f k = rw k (fewer_at x us y vs (order x y) a b e f)

  -- a step yields items of both lists, of the second, or of the first
  pub both_given : (us vs : List A) (r q : Option T) (left : List A × List A) (a b : T) → r ≡ Some a → q ≡ Some b → option_map shows r ≡ (merge_step order us vs).first → option_map shows q ≡ (merge_step order us vs).second → left ≡ (merge_step order us vs).left → (symmetric order us vs ≡ symmetric order left.0 left.1) × (length left.0 + length left.1 < length us + length vs)
  both_given us vs r q left a b is is_too e f k = (rw (is, is_too) at (lone_step us vs r q left e f k), fewer_left us vs a b left (rw is at e) (rw is_too at f) k)

  pub second_given : (us vs : List A) (r q : Option T) (left : List A × List A) → r ≡ None → option_map shows r ≡ (merge_step order us vs).first → option_map shows q ≡ (merge_step order us vs).second → left ≡ (merge_step order us vs).left → TakesFirst shows (symmetric order us vs) q (symmetric order left.0 left.1)
  second_given us vs r q left is e f k = rw is at (lone_step us vs r q left e f k)

  pub first_given : (us vs : List A) (r q : Option T) (left : List A × List A) → q ≡ None → option_map shows r ≡ (merge_step order us vs).first → option_map shows q ≡ (merge_step order us vs).second → left ≡ (merge_step order us vs).left → TakesFirst shows (symmetric order us vs) r (symmetric order left.0 left.1)
  first_given us vs None q left is e f k = rw is at (lone_step us vs None q left e f k)
  first_given us vs (Some a) q left is e f k = rw is at (lone_step us vs (Some a) q left e f k)

-- each list is at most as long as the other and the items that are yielded, and these are at most
-- as many as both
pub record IsCountOfOne (first second one : ℕ) : Type 0 where
  pub no_fewer : first ≤ one + second
  pub no_fewer_too : second ≤ one + first
  pub no_more : one ≤ first + second

-- fewer keys are left after an item, and none of them after the end
pub symmetric_goes : {K : Type 0} (cmp : K → K → Ordering) (old left : List K × List K) (r : Option (Bor K)) → IsSymmetricStep cmp old r left → MakesProgress (λ _. Unit {0}) (item_count (λ both. symmetric cmp both.0 both.1)) old r left
symmetric_goes cmp old left None step = record { on = λ _. tt; keeps = tt; rests = λ _. tt }
symmetric_goes cmp old left (Some x) step = record { on = λ _. (tt, tt, rw step (omega arith)); keeps = tt; rests = λ _. tt }

module _ {A : Type 0} (order : A → A → Ordering) where
  counted_from : (x : A) (count : ℕ) (rest : List A → List (Option A × Option A)) → ((zs : List A) → IsCountOfOne count (length zs) (length (lone (rest zs)))) → (ys : List A) → IsCountOfOne (suc count) (length ys) (length (lone (merged_from order x rest ys)))
  counted_from x count rest later [] = let r = later [] in record { no_fewer = omega (arith, r.no_fewer); no_fewer_too = omega arith; no_more = omega (arith, r.no_more) }
  counted_from x count rest later (y ∷ ys) =
      elim (order x y) as (λ o. IsCountOfOne (suc count) (length (y ∷ ys)) (length (lone (match_ordering o ((Some x, None) ∷ rest (y ∷ ys)) ((Some x, Some y) ∷ rest ys) ((None, Some y) ∷ merged_from order x rest ys))))) [
        | Less ↦ let r = later (y ∷ ys) in record { no_fewer = omega (arith, r.no_fewer); no_fewer_too = omega (arith, r.no_fewer_too); no_more = omega (arith, r.no_more) }
        | Equal ↦ let r = later ys in record { no_fewer = omega (arith, r.no_fewer); no_fewer_too = omega (arith, r.no_fewer_too); no_more = omega (arith, r.no_more) }
        | Greater ↦ let r = counted_from x count rest later ys in record { no_fewer = omega (arith, r.no_fewer); no_fewer_too = omega (arith, r.no_fewer_too); no_more = omega (arith, r.no_more) }
      ]

  pub counted_symmetric : (xs ys : List A) → IsCountOfOne (length xs) (length ys) (length (symmetric order xs ys))
  counted_symmetric [] ys = let whole = ap length (lone_second ys) in record { no_fewer = omega arith; no_fewer_too = omega (arith, whole); no_more = omega (arith, whole) }
  counted_symmetric (x ∷ xs) ys = counted_from x (length xs) (merged order xs) (counted_symmetric xs) ys

  pub symmetric_bounds : (both : List A × List A) (reported : ℕ × Option ℕ) → IsHintOfBoth (length both.0) (length both.1) reported → IsBoundedHint (length (symmetric order both.0 both.1)) reported
  symmetric_bounds both reported is =
      let counted = counted_symmetric both.0 both.1 in
      (λ _. omega (arith, counted.no_fewer, counted.no_fewer_too, is.0), sum_bounds reported.1 _ _ _ is.1 counted.no_more)

  -- a property of each key of both lists holds of each key that is yielded
  module _ (P : A → Type 0) where
    all_lone : (steps : List (Option A × Option A)) → AllByRecursion P (first_members steps) → AllByRecursion P (seconds steps) → AllByRecursion P (lone steps)
    all_lone [] first second = tt
    all_lone ((None, None) ∷ steps) first second = all_lone steps first second
    all_lone ((None, Some y) ∷ steps) first second = (second.0, all_lone steps first second.1)
    all_lone ((Some x, None) ∷ steps) first second = (first.0, all_lone steps first.1 second)
    all_lone ((Some x, Some y) ∷ steps) first second = all_lone steps first.1 second.1

    all_symmetric : (xs ys : List A) → AllByRecursion P xs → AllByRecursion P ys → AllByRecursion P (symmetric order xs ys)
    all_symmetric xs ys first second = all_lone (merged order xs ys) (rw (firsts_merged order xs ys) first) (rw (seconds_merged order xs ys) second)

-- exactly one of two values is true
abbrev differ : Bool → Bool → Bool
differ a b = cond a (not b) b

more_first : (a b c : Bool) → (a ≡ true → c ≡ false) → (a || differ b c) ≡ differ (a || b) c
more_first true b c none = sym (ap not (none refl))
more_first false b c none = refl

more_second : (a b c : Bool) → (a ≡ true → b ≡ false) → (a || differ b c) ≡ differ b (a || c)
more_second true b c none = sym (ap (λ z. differ z true) (none refl))
more_second false b c none = refl

more_both : (a b c : Bool) → (a ≡ true → b ≡ false) → (a ≡ true → c ≡ false) → differ b c ≡ differ (a || b) (a || c)
more_both true b c none none_too = ap (λ z. differ z c) (none refl) ∙ none_too refl
more_both false b c none none_too = refl

equal_if : (o : Ordering) → is_eq o ≡ true → o ≡ Equal
equal_if Less is = cc
equal_if Equal is = refl
equal_if Greater is = cc

module _ {A : Type 0} (order : A → A → Ordering) (total : IsTotalOrder order) where
  -- a key below or above all of a list
  below_all : (x y : A) (ys : List A) → order x y ≡ Less → IsStrictlySortedBy order (y ∷ ys) → AllByRecursion (λ z. order x z ≡ Less) (y ∷ ys)
  below_all x y ys is second = (is, AllByRecursion-weaker (λ z. order y z ≡ Less) (λ z. order x z ≡ Less) (λ z less. total.trans x y z is less) ys (sorted_head order y ys second))

  level_all : (x y : A) (ys : List A) → order x y ≡ Equal → IsStrictlySortedBy order (y ∷ ys) → AllByRecursion (λ z. order x z ≡ Less) ys
  level_all x y ys is second = AllByRecursion-weaker (λ z. order y z ≡ Less) (λ z. order x z ≡ Less) (λ z less. total.congr x y z is ∙ less) ys (sorted_head order y ys second)

  -- the keys that are yielded of two ascending lists ascend
  ascending_at : (x : A) (xs : List A) → IsStrictlySortedBy order (x ∷ xs) → ((zs : List A) → IsStrictlySortedBy order zs → IsStrictlySortedBy order (symmetric order xs zs)) → (y : A) (ys : List A) → IsStrictlySortedBy order (y ∷ ys) → IsStrictlySortedBy order (symmetric order (x ∷ xs) ys) → (o : Ordering) → order x y ≡ o → IsStrictlySortedBy order (lone (match_ordering o ((Some x, None) ∷ merged order xs (y ∷ ys)) ((Some x, Some y) ∷ merged order xs ys) ((None, Some y) ∷ merged order (x ∷ xs) ys)))
  ascending_at x xs first later y ys second after Less is =
      ascending_cons order x (symmetric order xs (y ∷ ys)) (all_symmetric order (λ z. order x z ≡ Less) xs (y ∷ ys) (sorted_head order x xs first) (below_all x y ys is second)) (later (y ∷ ys) second)
  ascending_at x xs first later y ys second after Equal is = later ys (sorted_tail order y ys second)
  ascending_at x xs first later y ys second after Greater is =
      ascending_cons order y (symmetric order (x ∷ xs) ys) (all_symmetric order (λ z. order y z ≡ Less) (x ∷ xs) ys (below_all y x xs (less_turned order total x y is) first) (sorted_head order y ys second)) after

  ascending_from : (x : A) (xs : List A) → IsStrictlySortedBy order (x ∷ xs) → ((zs : List A) → IsStrictlySortedBy order zs → IsStrictlySortedBy order (symmetric order xs zs)) → (ys : List A) → IsStrictlySortedBy order ys → IsStrictlySortedBy order (symmetric order (x ∷ xs) ys)
  ascending_from x xs first later [] second = ascending_cons order x (symmetric order xs []) (all_symmetric order (λ z. order x z ≡ Less) xs [] (sorted_head order x xs first) tt) (later [] second)
  ascending_from x xs first later (y ∷ ys) second = ascending_at x xs first later y ys second (ascending_from x xs first later ys (sorted_tail order y ys second)) (order x y) refl

  pub ascending_symmetric : (xs ys : List A) → IsStrictlySortedBy order xs → IsStrictlySortedBy order ys → IsStrictlySortedBy order (symmetric order xs ys)
  ascending_symmetric [] ys first second = rw (lone_second ys) second
  ascending_symmetric (x ∷ xs) ys first second = ascending_from x xs first (λ zs later. ascending_symmetric xs zs (sorted_tail order x xs first) later) ys second

  -- a key is yielded if and only if one of the lists holds it and the other does not
  module _ (k : A) where
    abbrev here : List A → Bool
    here xs = holds order xs k

    held_at : (x : A) (xs : List A) → IsStrictlySortedBy order (x ∷ xs) → ((zs : List A) → IsStrictlySortedBy order zs → here (symmetric order xs zs) ≡ differ (here xs) (here zs)) → (y : A) (ys : List A) → IsStrictlySortedBy order (y ∷ ys) → here (symmetric order (x ∷ xs) ys) ≡ differ (here (x ∷ xs)) (here ys) → (o : Ordering) → order x y ≡ o → here (lone (match_ordering o ((Some x, None) ∷ merged order xs (y ∷ ys)) ((Some x, Some y) ∷ merged order xs ys) ((None, Some y) ∷ merged order (x ∷ xs) ys))) ≡ differ (here (x ∷ xs)) (here (y ∷ ys))
    held_at x xs first later y ys second after Less is =
        ap (λ b. is_eq (order x k) || b) (later (y ∷ ys) second) ∙ more_first (is_eq (order x k)) (here xs) (here (y ∷ ys)) (λ same. apart order total x (y ∷ ys) (below_all x y ys is second) k (equal_if _ same))
    held_at x xs first later y ys second after Equal is =
        later ys (sorted_tail order y ys second) ∙ more_both (is_eq (order x k)) (here xs) (here ys) (λ same. apart order total x xs (sorted_head order x xs first) k (equal_if _ same)) (λ same. apart order total x ys (level_all x y ys is second) k (equal_if _ same)) ∙ ap (λ o. differ (here (x ∷ xs)) (is_eq o || here ys)) (total.congr x y k is)
    held_at x xs first later y ys second after Greater is =
        ap (λ b. is_eq (order y k) || b) after ∙ more_second (is_eq (order y k)) (here (x ∷ xs)) (here ys) (λ same. apart order total y (x ∷ xs) (below_all y x xs (less_turned order total x y is) first) k (equal_if _ same))

    held_from : (x : A) (xs : List A) → IsStrictlySortedBy order (x ∷ xs) → ((zs : List A) → IsStrictlySortedBy order zs → here (symmetric order xs zs) ≡ differ (here xs) (here zs)) → (ys : List A) → IsStrictlySortedBy order ys → here (symmetric order (x ∷ xs) ys) ≡ differ (here (x ∷ xs)) (here ys)
    held_from x xs first later [] second = ap (λ b. is_eq (order x k) || b) (later [] second) ∙ more_first (is_eq (order x k)) (here xs) false (λ same. refl)
    held_from x xs first later (y ∷ ys) second = held_at x xs first later y ys second (held_from x xs first later ys (sorted_tail order y ys second)) (order x y) refl

    pub held_symmetric : (xs ys : List A) → IsStrictlySortedBy order xs → IsStrictlySortedBy order ys → here (symmetric order xs ys) ≡ differ (here xs) (here ys)
    held_symmetric [] ys first second = ap here (lone_second ys)
    held_symmetric (x ∷ xs) ys first second = held_from x xs first (λ zs later. held_symmetric xs zs (sorted_tail order x xs first) later) ys second

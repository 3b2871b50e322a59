-- Steps of a union, and the key that is found in it.
use Rattle.std.proofs.Common.{◌≡◌, ℕ, ◌≤◌, ◌<◌, ◌+◌, ◌^◌, length, arith, ◌∙◌, sym, ap, List, [], ◌∷◌, Option, Some, None, refl, Bool, true, false, cond}
use Rattle.std.proofs.lemmas.Map.Keys.{sorted_head, sorted_tail}
use Rattle.std.specs.declared.cmp.Ordering.{Ordering}
use Rattle.std.specs.declared.cmp.Ordering.TheVariants.{Less, Equal, Greater}
use Rattle.std.specs.Cmp.{IsTotalOrder}
use Rattle.std.specs.List.{AllByRecursion, find}
use Rattle.std.specs.List.Sorted.{IsStrictlySortedBy}
use Rattle.std.specs.Borrow.{Bor}
use Rattle.std.specs.Iterator.{MakesProgress, UpTo, at_most, item_count}
use Rattle.std.specs.Map.Iter.{deref}
use Rattle.std.specs.Option.{IfSome, MatchOption, SomeIff, option_map, option_or}
use Rattle.std.specs.Ordering.{is_eq, match_ordering}
use Rattle.bptree_keys.proofs.Ascending.{greater_turned, less_turned}
use Rattle.bptree_keys.proofs.PieceLemmas.{AllByRecursion-weaker}
use Rattle.bptree_merge_iter.specs.Merge.{merge_step, step_by, merged, keys_given}
use Rattle.bptree_merge_iter.proofs.MergedLemmas.{counted_merged, keys_alone, keys_step}
use Rattle.bptree_set.specs.Joined.{AreNoLonger, IsBoundedHint}
use Rattle.bptree_set.specs.Union.{IsBetweenLengths, IsUnionStep, union}

-- the first of two items is the first of both that are shown
pub shown_or : {T A : Type 0} (shows : T → A) (r q : Option T) → option_map shows (option_or r q) ≡ option_or (option_map shows r) (option_map shows q)
shown_or shows None q = refl
shown_or shows (Some x) q = refl

-- a step of a merge makes no side longer
pub left_shorter : {A : Type 0} (order : A → A → Ordering) (us vs : List A) → AreNoLonger (us, vs) (merge_step order us vs).left
left_shorter order [] [] = (omega arith, omega arith)
left_shorter order (x ∷ us) [] = (omega arith, omega arith)
left_shorter order [] (y ∷ vs) = (omega arith, omega arith)
left_shorter order (x ∷ us) (y ∷ vs) =
    elim (order x y) as (λ o. (length (step_by o x us y vs).left.0 ≤ length (x ∷ us)) × (length (step_by o x us y vs).left.1 ≤ length (y ∷ vs))) [
      | Less ↦ (omega arith, omega arith)
      | Equal ↦ (omega arith, omega arith)
      | Greater ↦ (omega arith, omega arith)
    ]

pub shorter_still : {A : Type 0} (order : A → A → Ordering) (old now left : List A × List A) → AreNoLonger old now → left ≡ (merge_step order now.0 now.1).left → AreNoLonger old left
shorter_still order old now left are is =
    let step = left_shorter order now.0 now.1 in
    rw is (omega (arith, are.0, step.0), omega (arith, are.1, step.1))

module _ {A : Type 0} (order : A → A → Ordering) (total : IsTotalOrder order) (k : A) where
  -- the key of the list that equals k
  abbrev key_at : List A → Option A
  key_at xs = find (λ x. is_eq (order x k)) xs

  -- greater keys don't equal k
  none_above : (y : A) (zs : List A) → order y k ≡ Equal → AllByRecursion (λ z. order y z ≡ Less) zs → key_at zs ≡ None
  none_above y [] is above = refl
  none_above y (z ∷ zs) is above =
      let more : order z k ≡ Greater = greater_turned order total k z (sym (total.congr y k z is) ∙ above.0) in
      ap (λ o. cond (is_eq o) (Some z) (key_at zs)) more ∙ none_above y zs is above.1

  or_cond : (b : Bool) (x : A) (first second : Option A) → cond b (Some x) (option_or first second) ≡ option_or (cond b (Some x) first) second
  or_cond true x first second = refl
  or_cond false x first second = refl

  or_both : (b : Bool) (x y : A) (first second : Option A) → cond b (Some x) (option_or first second) ≡ option_or (cond b (Some x) first) (cond b (Some y) second)
  or_both true x y first second = refl
  or_both false x y first second = refl

  or_second : (o : Ordering) (y : A) (first second : Option A) → (o ≡ Equal → first ≡ None) → cond (is_eq o) (Some y) (option_or first second) ≡ option_or first (cond (is_eq o) (Some y) second)
  or_second Less y first second none = refl
  or_second Greater y first second none = refl
  or_second Equal y first second none = sym (ap (λ z. option_or z (Some y)) (none refl))

  found_at : (x : A) (xs : List A) → IsStrictlySortedBy order (x ∷ xs) → ((zs : List A) → key_at (keys_given (merged order xs zs)) ≡ option_or (key_at xs) (key_at zs)) → (y : A) (ys : List A) → key_at (keys_given (merged order (x ∷ xs) ys)) ≡ option_or (key_at (x ∷ xs)) (key_at ys) → (o : Ordering) → order x y ≡ o → key_at (keys_given (match_ordering o ((Some x, None) ∷ merged order xs (y ∷ ys)) ((Some x, Some y) ∷ merged order xs ys) ((None, Some y) ∷ merged order (x ∷ xs) ys))) ≡ option_or (key_at (x ∷ xs)) (key_at (y ∷ ys))
  found_at x xs first later y ys after Less is = ap (λ rest. cond (is_eq (order x k)) (Some x) rest) (later (y ∷ ys)) ∙ or_cond (is_eq (order x k)) x (key_at xs) (key_at (y ∷ ys))
  found_at x xs first later y ys after Equal is =
      ap (λ rest. cond (is_eq (order x k)) (Some x) rest) (later ys) ∙ or_both (is_eq (order x k)) x y (key_at xs) (key_at ys) ∙ ap (λ o. option_or (key_at (x ∷ xs)) (cond (is_eq o) (Some y) (key_at ys))) (total.congr x y k is)
  found_at x xs first later y ys after Greater is =
      let less = less_turned order total x y is in
      let above = AllByRecursion-weaker (λ z. order x z ≡ Less) (λ z. order y z ≡ Less) (λ z more. total.trans y x z less more) xs (sorted_head order x xs first) in
      ap (λ rest. cond (is_eq (order y k)) (Some y) rest) after ∙ or_second (order y k) y (key_at (x ∷ xs)) (key_at ys) (λ equal. none_above y (x ∷ xs) equal (less, above))

  found_from : (x : A) (xs : List A) → IsStrictlySortedBy order (x ∷ xs) → ((zs : List A) → key_at (keys_given (merged order xs zs)) ≡ option_or (key_at xs) (key_at zs)) → (ys : List A) → key_at (keys_given (merged order (x ∷ xs) ys)) ≡ option_or (key_at (x ∷ xs)) (key_at ys)
  found_from x xs first later [] = ap (λ rest. cond (is_eq (order x k)) (Some x) rest) (later []) ∙ or_cond (is_eq (order x k)) x (key_at xs) None
  found_from x xs first later (y ∷ ys) = found_at x xs first later y ys (found_from x xs first later ys) (order x y) refl

  pub found_merged : (xs ys : List A) → IsStrictlySortedBy order xs → key_at (keys_given (merged order xs ys)) ≡ option_or (key_at xs) (key_at ys)
  found_merged [] ys first = ap key_at (keys_alone ys)
  found_merged (x ∷ xs) ys first = found_from x xs first (λ zs. found_merged xs zs (sorted_tail order x xs first)) ys

-- the first of the two items of a step of the merge makes a step of the union
pub union_step : {K : Type 0} (cmp : K → K → Ordering) (old left : List K × List K) (r q : Option (Bor K)) → option_map deref r ≡ (merge_step cmp old.0 old.1).first → option_map deref q ≡ (merge_step cmp old.0 old.1).second → left ≡ (merge_step cmp old.0 old.1).left → IsUnionStep cmp old (option_or r q) left
union_step cmp old left r q first second is = (shown_or deref r q ∙ ap (λ a. option_or a (option_map deref q)) first ∙ ap (λ b. option_or (merge_step cmp old.0 old.1).first b) second, is, keys_step deref cmp old.0 old.1 r q left first second is)

-- fewer keys are left after an item, and none of them after the end
pub union_goes : {K : Type 0} (cmp : K → K → Ordering) (old left : List K × List K) (r : Option (Bor K)) → IsUnionStep cmp old r left → MakesProgress (λ _. Unit {0}) (item_count (λ both. union cmp both.0 both.1)) old r left
union_goes cmp old left None step = record { on = λ _. tt; keeps = tt; rests = λ _. tt }
union_goes cmp old left (Some x) step = record { on = λ _. (tt, tt, rw step.2 (omega arith)); keeps = tt; rests = λ _. tt }

-- the result is the sum of both numbers, if it fits
pub sum_exact : (r : Option ℕ) (x y m n : ℕ) → m ≡ x → n ≡ y → SomeIff r (x + y < 2 ^ 64) (x + y) → MatchOption r (2 ^ 64 ≤ m + n) (λ s. s ≡ m + n)
sum_exact None x y m n first second fits = omega (arith, first, second, fits)
sum_exact (Some s) x y m n first second fits = omega (arith, first, second, fits.1)

-- the sum bounds any number that is at most the sum
pub sum_bounds : (r : Option ℕ) (m n k : ℕ) → MatchOption r (2 ^ 64 ≤ m + n) (λ s. s ≡ m + n) → k ≤ m + n → IfSome r (UpTo (at_most k))
sum_bounds None m n k reported most = tt
sum_bounds (Some s) m n k reported most = (tt, omega (arith, reported, most))

pub union_bounds : {K : Type 0} (cmp : K → K → Ordering) (both : List K × List K) (reported : ℕ × Option ℕ) → IsBetweenLengths both.0 both.1 reported → IsBoundedHint (length (union cmp both.0 both.1)) reported
union_bounds cmp both reported is =
    let counted = counted_merged cmp both.0 both.1 in
    (λ _. omega (arith, counted.no_fewer, counted.no_fewer_too, is.0), sum_bounds reported.1 _ _ _ is.1 counted.no_more)

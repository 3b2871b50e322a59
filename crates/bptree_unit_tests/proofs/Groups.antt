-- The results of summaries of groups.
use Rattle.std.proofs.Common.{◌≡◌, ℕ, ◌+◌, ◌-◌, ◌^◌, ◌<◌, ◌≤◌, min, List, [], ◌∷◌, ◌++◌, length, map, Option, Some, None, inl, inr, Result, Ok, Err, false, refl, sym, ap, ◌∙◌, arith, length-append, append-nil}
use Rattle.std.specs.declared.cmp.Ordering.{Ordering}
use Rattle.std.specs.declared.cmp.Ordering.TheVariants.{Less, Equal, Greater}
use Rattle.std.specs.Ordering.{is_gt, ordering_reverse}
use Rattle.std.specs.Cmp.{IsTotalOrder}
use Rattle.std.specs.List.{AllByRecursion, zip}
use Rattle.std.specs.List.Sorted.{IsStrictlySortedBy}
use Rattle.std.specs.Map.{keys_of, values_of}
use Rattle.std.specs.Result.{IfOk}
use Rattle.std.proofs.lemmas.Bool.{true≢false, cases_lt}
use Rattle.std.proofs.lemmas.List.{length-map, map-append}
use Rattle.std.proofs.lemmas.Map.Made.{keys_of-zip}
use Rattle.bptree_arguments.specs.Groups.{IsGreatestGroup, group_size}
use Rattle.bptree_arguments.specs.GroupSizes.{GroupSize, IsSizeResult}
use Rattle.bptree_arguments.specs.Visits.{returned, invalid_child}
use Rattle.bptree_arguments.proofs.GroupLemmas.{size-le, witness}
use Rattle.bptree_arguments.specs.GroupClones.{size_alike}

module _ {G : Type 0} {R : G → G → Ordering} (o : IsTotalOrder R) where
  neither_above : (m g : G) → is_gt (R m g) ≡ false → is_gt (R g m) ≡ false → R m g ≡ Equal
  neither_above m g h k = by (R m g) h (rw (o.antisymm g m) at k) where
    by : (r : Ordering) → is_gt r ≡ false → is_gt (ordering_reverse r) ≡ false → r ≡ Equal
    by Less p q = absurd (true≢false q)
    by Equal p q = refl
    by Greater p q = absurd (true≢false p)

  -- Two greatest groups are equal, and so are their sizes.
  pub greatest_size : (groups : List G) (m g : G) (n : ℕ) → IsGreatestGroup R groups (Some (m, n)) → AllByRecursion (λ x. is_gt (R x g) ≡ false) groups → 0 < group_size R g groups → n ≡ group_size R g groups
  greatest_size groups m g n greatest bound there =
      let w = witness o (λ x. is_gt (R x g) ≡ false) m groups (omega (arith, greatest.1, greatest.2)) bound in
      let v = witness o (λ x. is_gt (R x m) ≡ false) g groups there greatest.0 in
      let up : is_gt (R m g) ≡ false = rw (o.congr w.0 m g w.2) at w.1 in
      let down : is_gt (R g m) ≡ false = rw (o.congr v.0 g m v.2) at v.1 in
      greatest.1 ∙ size_alike o m g (neither_above m g up down) groups

  -- A visitor that has counted nothing yet reports the whole size of its group.
  pub whole_size : (visitor : GroupSize G) (group : G) (groups : List G) (n : ℕ) → visitor.group ≡ group → visitor.counted ≡ 0 → length groups < 2 ^ 64 → returned (Some n) ≡ returned (Some (min (visitor.counted + group_size R visitor.group groups) (2 ^ 64 - 1))) → n ≡ group_size R group groups
  whole_size visitor group groups n e zero fits reported =
      let size : n ≡ min (visitor.counted + group_size R visitor.group groups) (2 ^ 64 - 1) = cc in
      let small = size-le o visitor.group groups in
      omega (arith, size, zero, small, fits) ∙ ap (λ g. group_size R g groups) e

values_of_zip : {K V : Type 0} (keys : List K) (values : List V) → length keys ≡ length values → values_of (zip keys values) ≡ values
values_of_zip [] [] e = refl
values_of_zip [] (v ∷ vs) e = absurd (omega (arith, e))
values_of_zip (k ∷ ks) [] e = absurd (omega (arith, e))
values_of_zip (k ∷ ks) (v ∷ vs) e = let t : length ks ≡ length vs = omega (arith, e) in ap (λ t. v ∷ t) (values_of_zip ks vs t)

module _ {K V G : Type 0} (cmp : K → K → Ordering) (R : G → G → Ordering) (group_of : K → G) (o : IsTotalOrder R) (visitor : GroupSize G) (group : G) (same : visitor.group ≡ group) (zero : visitor.counted ≡ 0) where
  pub leaf_of_result : {E : Type 0} (r : Result (Option ℕ) E) (keys : List K) (values : List V) → length keys ≤ 64 → length keys ≡ length values → IsStrictlySortedBy cmp keys → IfOk r (λ outcome. (pairs : List (K × V)) → keys_of pairs ≡ keys → values_of pairs ≡ values → IsStrictlySortedBy cmp keys → IsSizeResult R visitor (map group_of (keys_of pairs)) (returned outcome)) → IfOk r (λ size. size ≡ Some (group_size R group (map group_of keys)))
  leaf_of_result (Ok outcome) keys values few paired s reported =
      let keys_are = keys_of-zip keys values (sym paired) in
      let fits : length (map group_of keys) < 2 ^ 64 = omega (arith, few, length-map keys group_of) in
      let there : returned outcome ≡ returned (Some (min (visitor.counted + group_size R visitor.group (map group_of keys)) (2 ^ 64 - 1))) = rw keys_are at (reported (zip keys values) keys_are (values_of_zip keys values paired) s) in
      let size : outcome ≡ Some (min (visitor.counted + group_size R visitor.group (map group_of keys)) (2 ^ 64 - 1)) = cc in
      size ∙ ap Some (whole_size o visitor group (map group_of keys) _ same zero fits refl)
  leaf_of_result (Err e) keys values few paired s reported = tt

  pub inner_reported : (left right : List (K × V)) (n : ℕ) → length (keys_of left ++ (keys_of right ++ [])) < 2 ^ 64 → IsSizeResult R visitor (map group_of (keys_of (left ++ (right ++ [])))) (returned (Some n)) → n ≡ group_size R group (map group_of (keys_of left ++ keys_of right))
  inner_reported left right n fits reported =
      let keys_are : keys_of (left ++ (right ++ [])) ≡ keys_of left ++ keys_of right = ap (λ t. keys_of (left ++ t)) (append-nil right) ∙ map-append (λ x. x.0) left right in
      let small : length (map group_of (keys_of left ++ keys_of right)) < 2 ^ 64 = omega (arith, length-map (keys_of left ++ keys_of right) group_of, length-append (keys_of left) (keys_of right), length-append (keys_of left) (keys_of right ++ []), length-append (keys_of right) [], fits) in
      whole_size o visitor group (map group_of (keys_of left ++ keys_of right)) n same zero small (rw keys_are at reported)

-- The child that a visitor names is one of the two, and the visitor always returns a result.
module _ {G : Type 0} (R : G → G → Ordering) (visitor : GroupSize G) (groups : List G) where
  pub child_there : (child : ℕ) → (2 ≤ child → IsSizeResult R visitor groups invalid_child) → child < 2
  child_there child past = elim (cases_lt child 2) [
    | inl below ↦ below
    | inr beyond ↦ let reported = past beyond in cc
  ]

  pub always_returns : IsSizeResult R visitor groups (returned None) → ⊥
  always_returns reported = cc

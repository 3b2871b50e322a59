-- Keys that are paired with the unit value are compared as the keys are.
use Rattle.std.proofs.Common.{◌≡◌, Bool, true, false, ◌&&◌, List, [], ◌∷◌, Option, Some, None, refl}
use Rattle.std.specs.Cmp.Lexicographic.{pointwise, slice_cmp, slice_partial_cmp}
use Rattle.std.specs.declared.cmp.Ordering.{Ordering}
use Rattle.std.specs.declared.cmp.Ordering.TheVariants.{Less, Equal, Greater}
use Rattle.std.specs.Map.{keys_of}
use Rattle.std.specs.Ordering.{ordering_then, partial_ordering_then}
use Rattle.bptree_map.specs.Comparing.{pairs_cmp, pairs_eq, pairs_partial_cmp}

and_true : (b : Bool) → (b && true) ≡ b
and_true true = refl
and_true false = refl

then_equal : (o : Ordering) → ordering_then o Equal ≡ o
then_equal Less = refl
then_equal Equal = refl
then_equal Greater = refl

then_some_equal : (o : Option Ordering) → partial_ordering_then o (Some Equal) ≡ o
then_some_equal None = refl
then_some_equal (Some Less) = refl
then_some_equal (Some Equal) = refl
then_some_equal (Some Greater) = refl

module _ {K : Type 0} where
  pub keys_eq : (eq : K → K → Bool) (l m : List (K × Unit {0})) → pairs_eq eq (λ _ _. true) l m ≡ pointwise eq (keys_of l) (keys_of m)
  keys_eq eq [] [] = refl
  keys_eq eq [] (q ∷ m) = refl
  keys_eq eq (p ∷ l) [] = refl
  keys_eq eq (p ∷ l) (q ∷ m) = rw (and_true (eq p.0 q.0), keys_eq eq l m) refl

  pub keys_cmp : (cmp : K → K → Ordering) (l m : List (K × Unit {0})) → pairs_cmp cmp (λ _ _. Equal) l m ≡ slice_cmp cmp (keys_of l) (keys_of m)
  keys_cmp cmp [] [] = refl
  keys_cmp cmp [] (q ∷ m) = refl
  keys_cmp cmp (p ∷ l) [] = refl
  keys_cmp cmp (p ∷ l) (q ∷ m) = rw (then_equal (cmp p.0 q.0), keys_cmp cmp l m) refl

  pub keys_partial_cmp : (cmp : K → K → Option Ordering) (l m : List (K × Unit {0})) → pairs_partial_cmp cmp (λ _ _. Some Equal) l m ≡ slice_partial_cmp cmp (keys_of l) (keys_of m)
  keys_partial_cmp cmp [] [] = refl
  keys_partial_cmp cmp [] (q ∷ m) = refl
  keys_partial_cmp cmp (p ∷ l) [] = refl
  keys_partial_cmp cmp (p ∷ l) (q ∷ m) = rw (then_some_equal (cmp p.0 q.0), keys_partial_cmp cmp l m) refl

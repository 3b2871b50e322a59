-- How an insertion failed, by what its contract states of each error.
use Rattle.std.proofs.Common.{◌≡◌, ◌∙◌, ◌↔◌, ℕ, Bool, true, false, List, length, Result, Ok, Err, ap, refl, sym}
use Rattle.std.specs.Prelude.{IsOk, IsTrue}
use Rattle.std.specs.declared.cmp.Ordering.{Ordering}
use Rattle.bptree_keys.specs.Contents.{has}
use Rattle.bptree_tree.specs.Changes.{IsFailureOf, IsInsertFailure, FailsIfFull}
use Rattle.bptree_tree.specs.Returning.{pair_of, ReturnsPair}
use Rattle.bptree_tree.specs.declared.InsertError.{InsertError}
use Rattle.bptree_tree.specs.declared.InsertError.TheVariants.{Full, OutOfMemory}

no_failure : {R E : Type 0} (result : Result R E) (error : E) → result ≡ Err error → IsOk result → ⊥
no_failure (Ok x) error is ok = cc
no_failure (Err y) error is ok = cc

module _ {R K V : Type 0} (n most : ℕ) (is_there : K → Bool) where
  -- a key that is present can't be in an error
  absent_if_failed : (b : Bool) (result : Result R (InsertError K V)) (error : InsertError K V) → result ≡ Err error → (IsTrue b → IsOk result) → b ≡ false
  absent_if_failed false result error is present = refl
  absent_if_failed true result error is present = absurd (no_failure result error is (present refl))

  pub failure_is : (k : K) (v : V) (result : Result R (InsertError K V)) (error : InsertError K V) → result ≡ Err error → pair_of error ≡ (k, v) → (IsTrue (is_there k) → IsOk result) → ((result ≡ Err (Full k v)) ↔ (n ≡ most) × (is_there k ≡ false)) → IsInsertFailure most n is_there error
  failure_is k v result (Full j w) is same present full = rw (ap (λ pair. pair.0) same) (full.0 (is ∙ ap (λ pair. Err (Full pair.0 pair.1)) same))
  failure_is k v result (OutOfMemory j w) is same present full =
      let absent = absent_if_failed (is_there k) result (OutOfMemory j w) is present in
      (λ most_now. (let never : Err (OutOfMemory j w) ≡ Err (Full k v) = sym is ∙ full.1 (most_now, absent) in cc), rw (ap (λ pair. pair.0) same) absent)

-- how an insertion into a list of pairs failed, which the failure leaves unchanged
module _ {R K V : Type 0} (cmp : K → K → Ordering) (most : ℕ) (old new : List (K × V)) where
  pub failure_of : (k : K) (v : V) (result : Result R (InsertError K V)) (error : InsertError K V) → result ≡ Err error → ReturnsPair (k, v) old new error → (IsTrue (has cmp old k) → IsOk result) → FailsIfFull cmp most old k v result → IsFailureOf cmp most new error
  failure_of k v result error is back present full = rw back.1 (failure_is (length old) most (has cmp old) k v result error is back.0 present full)

-- A cursor on the pair at an index.
use Rattle.std.proofs.Common.{◌≡◌, ◌≤◌, ◌+◌, ◌∙◌, ℕ, zero, suc, List, [], ◌∷◌, length, drop, Option, Result, Ok, None, Some, IfOk, IsOk, refl, sym, ap, arith, slice_get}
use Rattle.std.specs.Borrow.{Bor}
use Rattle.std.specs.declared.alloc.AllocError.{AllocError}
use Rattle.std.specs.declared.cmp.Ordering.{Ordering}
use Rattle.bptree_tree.specs.Cursor.{PointsAt, ReturnsCursor, ShowsValueOf}
use Rattle.bptree_tree.specs.declared.cursor.Cursor.{Cursor}

pub get_drop : {X : Type 0} (i : ℕ) (xs : List X) → slice_get xs i ≡ slice_get (drop i xs) 0
get_drop zero xs = refl
get_drop (suc i) [] = refl
get_drop (suc i) (x ∷ xs) = get_drop i xs

past_end : {X : Type 0} (xs : List X) (i : ℕ) → slice_get xs i ≡ None → length xs ≤ i
past_end [] i none = omega arith
past_end (x ∷ xs) zero none = let bad : Some x ≡ None = none in absurd cc
past_end (x ∷ xs) (suc i) none = omega (arith, past_end xs i none)

pub returns_at : {K V : Type 0} (cmp : K → K → Ordering) (is_infallible : K → Type 0) (l : List (K × V)) (i : ℕ) (pair : Option (K × V)) (outcome : Result (Option (Cursor K × Bor V)) AllocError)
    → slice_get l i ≡ pair → IfOk outcome (PointsAt cmp (slice_get l i)) → IfOk outcome (ShowsValueOf (slice_get l i)) → (length l ≤ i → outcome ≡ Ok None) → (((key : K) → is_infallible key) → IsOk outcome) → ReturnsCursor cmp is_infallible pair outcome
returns_at cmp is_infallible l i pair outcome is cursor value past infallible = record {
  cursor = rw (sym is) cursor;
  value = rw (sym is) value;
  end = λ none. past (past_end l i (is ∙ none));
  infallible = infallible;
}

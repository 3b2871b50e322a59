-- Reads of a list at an index.
use Rattle.std.proofs.Common.{◌≡◌, ℕ, zero, suc, ◌<◌, List, [], ◌∷◌, length, refl, arith, Some, slice_get, subst}
use Rattle.std.specs.List.{AllByRecursion}

pub all_read : {X : Type 0} (P : X → Type 0) (xs : List X) (i : ℕ) (x : X) → AllByRecursion P xs → slice_get xs i ≡ Some x → P x
all_read P [] i x all read = cc
all_read P (y ∷ xs) zero x all read = let same : y ≡ x = cc in subst P same all.0
all_read P (y ∷ xs) (suc i) x all read = all_read P xs i x all.1 read

module _ {X : Type 0} where
  pub read_some : (xs : List X) (i : ℕ) → i < length xs → (x : X) × (slice_get xs i ≡ Some x)
  read_some [] i below = absurd (omega arith)
  read_some (x ∷ xs) zero below = (x, refl)
  read_some (x ∷ xs) (suc i) below = read_some xs i (omega arith)

  pub read_below : (xs : List X) (i : ℕ) (x : X) → slice_get xs i ≡ Some x → i < length xs
  read_below [] i x read = cc
  read_below (y ∷ xs) zero x read = omega arith
  read_below (y ∷ xs) (suc i) x read = omega (arith, read_below xs i x read)

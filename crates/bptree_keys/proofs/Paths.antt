-- A path and its last entry.
use Rattle.std.proofs.Common.{◌≡◌, ℕ, zero, suc, ◌+◌, ◌-◌, List, [], ◌∷◌, ◌++◌, length, take, slice_get, Option, Some, None, IfSome, ap, sym, arith}
use Rattle.std.proofs.lemmas.Option.{slice_get_within}

module _ {X : Type 0} where
  behind : (xs : List X) (n : ℕ) (x : X) → slice_get xs n ≡ Some x → length xs ≡ n + 1 → xs ≡ take n xs ++ x ∷ []
  behind [] n x e long = absurd (omega (arith, long))
  behind (y ∷ []) zero x e long = let is : y ≡ x = cc in ap (λ z. z ∷ []) is
  behind (y ∷ z ∷ zs) zero x e long = absurd (omega (arith, long))
  behind (y ∷ ys) (suc n) x e long = ap (λ l. y ∷ l) (behind ys n x e (omega (arith, long)))

  -- a list is all of its members but the last, followed by its last member
  pub last_behind : (xs : List X) (last : Option X) → last ≡ slice_get xs (length xs - 1) → IfSome last (λ x. xs ≡ take (length xs - 1) xs ++ x ∷ [])
  last_behind xs None e = tt
  last_behind xs (Some x) e = behind xs (length xs - 1) x (sym e) (omega (arith, slice_get_within xs (length xs - 1) x (sym e)))

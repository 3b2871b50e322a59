-- Lemmas about members of pieces, one piece after another.
use Rattle.std.proofs.Common.{◌≡◌, ℕ, zero, suc, ◌<◌, List, [], ◌∷◌, ◌++◌, length, take, drop, set, slice_get, refl, sym, ap, ◌∙◌, append_assoc, arith}
use Rattle.std.specs.List.{AllByRecursion}
use Rattle.std.specs.Option.{option_or}
use Rattle.bptree_keys.specs.Pieces.{flatten, piece_at}
use Rattle.bptree_keys.proofs.PieceLemmas.{AllByRecursion-append, AllByRecursion-left, AllByRecursion-right}

module _ {X : Type 0} where
  -- Replacing one piece replaces its members in the concatenation.
  pub flatten_set : (pieces : List (List X)) (i : ℕ) (new : List X) → i < length pieces → flatten (set pieces i new) ≡ flatten (take i pieces) ++ (new ++ flatten (drop (suc i) pieces))
  flatten_set [] i new h = absurd (omega arith)
  flatten_set (piece ∷ pieces) zero new h = refl
  flatten_set (piece ∷ pieces) (suc i) new h = let small : i < length pieces = omega arith in
      ap (λ t. piece ++ t) (flatten_set pieces i new small) ∙ sym (append_assoc piece (flatten (take i pieces)) _)

  pub all_flatten_set : (P : X → Type 0) (pieces : List (List X)) (i : ℕ) (new : List X) → (AllByRecursion P (piece_at pieces i) → AllByRecursion P new)
      → AllByRecursion P (flatten pieces) → AllByRecursion P (flatten (set pieces i new))
  all_flatten_set P [] i new turns all = tt
  all_flatten_set P (piece ∷ pieces) zero new turns all =
      AllByRecursion-append P new (flatten pieces) (turns (AllByRecursion-left P piece (flatten pieces) all)) (AllByRecursion-right P piece (flatten pieces) all)
  all_flatten_set P (piece ∷ pieces) (suc i) new turns all =
      AllByRecursion-append P piece (flatten (set pieces i new)) (AllByRecursion-left P piece (flatten pieces) all) (all_flatten_set P pieces i new turns (AllByRecursion-right P piece (flatten pieces) all))

  pub first_of_two : (xs ys : List X) → slice_get (xs ++ ys) 0 ≡ option_or (slice_get xs 0) (slice_get ys 0)
  first_of_two [] ys = refl
  first_of_two (x ∷ xs) ys = refl

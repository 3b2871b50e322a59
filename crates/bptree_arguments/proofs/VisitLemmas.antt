-- The keys of pieces of a list of pairs.
use Rattle.std.proofs.Common.{◌≡◌, ℕ, zero, suc, List, [], ◌∷◌, ◌++◌, refl, ap, ◌∙◌}
use Rattle.std.proofs.lemmas.List.{map-append}
use Rattle.std.specs.Map.{keys_of}
use Rattle.bptree_arguments.specs.Visits.{key_pieces}
use Rattle.bptree_keys.specs.Pieces.{flatten, piece_at}

module _ {K V : Type 0} where
  pub keys_of-flatten : (pieces : List (List (K × V))) → keys_of (flatten pieces) ≡ flatten (key_pieces pieces)
  keys_of-flatten [] = refl
  keys_of-flatten (p ∷ ps) = map-append (λ x. x.0) p (flatten ps) ∙ ap (λ t. keys_of p ++ t) (keys_of-flatten ps)

  pub piece_at-keys : (pieces : List (List (K × V))) (i : ℕ) → piece_at (key_pieces pieces) i ≡ keys_of (piece_at pieces i)
  piece_at-keys [] i = refl
  piece_at-keys (p ∷ ps) zero = refl
  piece_at-keys (p ∷ ps) (suc i) = piece_at-keys ps i

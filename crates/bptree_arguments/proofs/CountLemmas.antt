-- Counts of the keys below children, and the lengths of the pieces.
use Rattle.std.proofs.Common.{◌≡◌, ℕ, ◌+◌, ◌<◌, List, [], ◌∷◌, length, take, get_or, Option, Some, None, Bool, refl, ◌∙◌, arith, length-append}
use Rattle.std.specs.List.{AllZip, filter, sum_by}
use Rattle.std.proofs.lemmas.List.Elements.{filter-append}
use Rattle.std.proofs.lemmas.List.Sums.{sum_by-cons}
use Rattle.bptree_arguments.specs.CountLaws.{SelectsIndex}
use Rattle.bptree_arguments.specs.Selection.{IsIndexBelow, LeadsTo, moved_by}
use Rattle.bptree_keys.specs.Pieces.{flatten, piece_at, start_of}
use Rattle.bptree_keys.proofs.PieceLemmas.{AllZip-take, AllZip-at, AllZip-length, start_of-below}

module _ {A K : Type 0} (f : A → ℕ) where
  -- if each number is the length of its piece, their sum is the length of the whole
  pub sum_by-lengths : (args : List A) (pieces : List (List K)) → AllZip (λ a p. f a ≡ length p) args pieces → sum_by f args ≡ length (flatten pieces)
  sum_by-lengths [] [] h = refl
  sum_by-lengths [] (p ∷ ps) h = absurd h
  sum_by-lengths (a ∷ rest) [] h = absurd h
  sum_by-lengths (a ∷ rest) (p ∷ ps) h = sum_by-cons f a rest ∙ omega (arith, h.0, sum_by-lengths rest ps h.1, length-append p (flatten ps))

  -- if each number counts the elements of its piece that pass a test, their sum counts those of the
  -- whole
  pub sum_by-filters : (test : K → Bool) (args : List A) (pieces : List (List K)) → AllZip (λ a p. f a ≡ length (filter test p)) args pieces → sum_by f args ≡ length (filter test (flatten pieces))
  sum_by-filters test [] [] h = refl
  sum_by-filters test [] (p ∷ ps) h = absurd h
  sum_by-filters test (a ∷ rest) [] h = absurd h
  sum_by-filters test (a ∷ rest) (p ∷ ps) h = rw (filter-append test p (flatten ps)) (sum_by-cons f a rest ∙ omega (arith, h.0, sum_by-filters test rest ps h.1, length-append (filter test p) (filter test (flatten ps))))

  module _ (args : List A) (pieces : List (List K)) (summaries : AllZip (λ a p. f a ≡ length p) args pieces) (i query rest : ℕ) (d : A) (inside : i < length args) (passed : rest + sum_by f (take i args) ≡ query) (here : rest < f (get_or args i d)) where
    piece_long : rest < length (piece_at pieces i)
    piece_long = omega (arith, AllZip-at (λ a p. f a ≡ length p) args pieces i d [] summaries inside, here)

    started : rest + start_of pieces i ≡ query
    started = omega (arith, sum_by-lengths (take i args) (take i pieces) (AllZip-take (λ a p. f a ≡ length p) i args pieces summaries), passed)

    within : i < length pieces
    within = omega (arith, AllZip-length (λ a p. f a ≡ length p) args pieces summaries, inside)

    moved : (index : Option ℕ) → IsIndexBelow (piece_at pieces i) index → SelectsIndex rest (piece_at pieces i) index → SelectsIndex query (flatten pieces) (moved_by (start_of pieces i) index)
    moved None l s = absurd (omega (arith, piece_long, s))
    moved (Some j) l s = (omega (arith, s.0, started), start_of-below pieces i j within l)

    -- the query leads to the first child whose count is above what is left of the index
    pub count_leads : LeadsTo SelectsIndex query pieces (Some (i, rest))
    count_leads = (within, moved)

-- Empty lists, one after another, are an empty list.
use Rattle.std.proofs.Common.{◌≡◌, List, [], ◌∷◌, ◌++◌, map, ap, ◌∙◌}
use Rattle.std.proofs.lemmas.List.{append-nil, map-append}
use Rattle.bptree_keys.specs.Pieces.{flatten}
use Rattle.bptree_keys.proofs.PieceLemmas.{flatten-append}

module _ {X : Type 0} where
  -- one more empty list
  pub empty_more : (lists : List (List X)) (more : List X) → flatten (map (λ l. l) lists) ≡ [] → more ≡ [] → flatten (map (λ l. l) (lists ++ more ∷ [])) ≡ []
  empty_more lists more none empty =
      ap flatten (map-append (λ (l : List X). l) lists (more ∷ [])) ∙ flatten-append (map (λ l. l) lists) (more ∷ [])
      ∙ ap (λ l. l ++ flatten (more ∷ [])) none ∙ append-nil more ∙ empty

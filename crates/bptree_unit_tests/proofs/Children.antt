-- The child of two to which an index leads.
use Rattle.std.proofs.Common.{◌≡◌, ℕ, ◌+◌, ◌-◌, ◌<◌, ◌≤◌, zero, suc, List, [], ◌∷◌, ◌++◌, Some, None, length, refl, inl, inr, arith, length-append}
use Rattle.std.proofs.lemmas.Bool.{cases_lt}
use Rattle.bptree_arguments.specs.CountLaws.{SelectsIndex}
use Rattle.bptree_arguments.specs.Selection.{LeadsTo}

module _ {K : Type 0} (left right : List K) (query rest : ℕ) where
  -- An index leads to the first child with the index itself, or to the second child with the index
  -- less the number of keys of the first.
  pub leads_to_child : (i : ℕ) → LeadsTo SelectsIndex query (left ∷ right ∷ []) (Some (i, rest)) → query < length left + length right
      → (query < length left → (i ≡ 0) × (rest ≡ query)) × (length left ≤ query → (i ≡ 1) × (rest ≡ query - length left))
  leads_to_child zero leads h =
      elim (cases_lt rest (length left)) [
        | inl below ↦
            let same : 0 + rest ≡ query = (leads.1 (Some rest) below (refl, below)).0 in
            (λ _. (refl, omega (arith, same)), λ low. absurd (omega (arith, same, low, below)))
        | inr past ↦
            let whole : length (left ++ (right ++ [])) ≤ query = leads.1 None tt past in
            absurd (omega (arith, h, whole, length-append left (right ++ []), length-append right []))
      ]
  leads_to_child (suc zero) leads h =
      elim (cases_lt rest (length right)) [
        | inl below ↦
            let same : length (left ++ []) + rest ≡ query = (leads.1 (Some rest) below (refl, below)).0 in
            (λ low. absurd (omega (arith, same, low, length-append left [])), λ _. (refl, omega (arith, same, length-append left [])))
        | inr past ↦
            let whole : length (left ++ (right ++ [])) ≤ query = leads.1 None tt past in
            absurd (omega (arith, h, whole, length-append left (right ++ []), length-append right []))
      ]
  leads_to_child (suc (suc i)) leads h = absurd (omega (arith, leads.0))

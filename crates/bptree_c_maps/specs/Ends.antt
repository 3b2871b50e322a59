-- The pairs up to a key, from the last on.
use Rattle.std.specs.Prelude.{◌≡◌, ℕ, Bool, true, false, List, [], ◌∷◌, Option, MatchOption, not, filter, reverse, take}
use Rattle.std.specs.Ordering.{nat_cmp, is_gt}

-- the pairs whose keys are at most k
abbrev pub pairs_up_to_key : List (ℕ × ℕ) → ℕ → List (ℕ × ℕ)
pairs_up_to_key l k = filter (λ pair. not (is_gt (nat_cmp pair.0 k))) l

-- the pairs whose keys are at most k, from the greatest key down
abbrev pub pairs_back_from : List (ℕ × ℕ) → ℕ → List (ℕ × ℕ)
pairs_back_from l k = reverse (pairs_up_to_key l k)

-- a list from its first member on, or from its last member back
abbrev pub turned_pairs : {X : Type 0} → Bool → List X → List X
turned_pairs false l = l
turned_pairs true l = reverse l

-- the members before an index, from the last one back, at most n
abbrev pub back_before : {X : Type 0} → List X → ℕ → ℕ → List X
back_before l i n = take n (reverse (take i l))

-- the first member was removed from a list and returned, or the list was empty
abbrev pub EndTakesNext : {X : Type 0} → List X → Option X → List X → Type 0
EndTakesNext old taken new = MatchOption taken (old ≡ []) (λ x. old ≡ x ∷ new)

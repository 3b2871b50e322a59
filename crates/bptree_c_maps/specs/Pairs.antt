-- Pairs as C has them, and their copies in a caller's array.
use Rattle.std.specs.Prelude.{◌≡◌, ℕ, Bool, true, false, List, [], ◌∷◌, ◌++◌, Option, MatchOption, length, map, take, drop}
use Rattle.std.specs.Ordering.{nat_cmp}
use Rattle.bptree_c_maps.specs.declared.pair.Pair.{Pair}
use Rattle.bptree_keys.specs.Contents.{gather}

-- a pair of C, as the map has it
abbrev pub as_tuple : Pair → ℕ × ℕ
as_tuple pair = (pair.key, pair.value)

-- a pair of the map, as C has it
abbrev pub as_pair : ℕ × ℕ → Pair
as_pair pair = record { key = pair.0; value = pair.1 }

-- the list of the pairs of an array in any order; of equal keys the last pair stays
abbrev pub pairs_gathered : List Pair → List (ℕ × ℕ)
pairs_gathered given = gather nat_cmp (map as_tuple given)

-- the result is true if there is a pair, which is then what C reads; if there is none, what C reads is unchanged
abbrev pub IsWritten : Option (ℕ × ℕ) → Bool → Pair → Pair → Type 0
IsWritten found result old new =
    MatchOption found ((result ≡ false) × (new ≡ old)) (λ pair. (result ≡ true) × (pair ≡ as_tuple new))

-- the first pairs of the list, as many as the array takes, are at its beginning, and the rest of the array is unchanged
abbrev pub IsCopied : List (ℕ × ℕ) → List Pair → List Pair → ℕ → Type 0
IsCopied l old new count =
    (count ≡ length (take (length old) l)) × (new ≡ map as_pair (take (length old) l) ++ drop count old)

-- the first pair was removed from the list, or the list was empty
abbrev pub IsPairTaken : List (ℕ × ℕ) → Option Pair → List (ℕ × ℕ) → Type 0
IsPairTaken old taken new = MatchOption taken (old ≡ []) (λ pair. old ≡ as_tuple pair ∷ new)

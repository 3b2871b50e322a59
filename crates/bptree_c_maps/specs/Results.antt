-- The results of calls that change a map of numbers, and what they write.
use Rattle.std.specs.Prelude.{◌≡◌, ℕ, List, [], ◌∷◌, ◌++◌, Option, Some, Result, MatchOption, MatchResult, slice_get}
use Rattle.std.specs.List.{remove}
use Rattle.std.specs.Ordering.{nat_cmp}
use Rattle.std.specs.declared.alloc.AllocError.{AllocError}
use Rattle.bptree_c_maps.specs.declared.pair.Pair.{Pair}
use Rattle.bptree_c_maps.specs.Pairs.{as_tuple}
use Rattle.bptree_keys.specs.Contents.{value, put, del}

-- the pair at an index was removed from the list, and is what C reads
abbrev pub RemovesAt : List (ℕ × ℕ) → ℕ → Option (List (ℕ × ℕ)) → Pair → Type 0
RemovesAt old i new written = (slice_get old i ≡ Some (as_tuple written)) × (new ≡ Some (remove old i))

-- the first pair was removed from the list, and is what C reads
abbrev pub RemovesFirst : List (ℕ × ℕ) → Option (List (ℕ × ℕ)) → Pair → Type 0
RemovesFirst old new written = (rest : List (ℕ × ℕ)) × (old ≡ as_tuple written ∷ rest) × (new ≡ Some rest)

-- the last pair was removed from the list, and is what C reads
abbrev pub RemovesLast : List (ℕ × ℕ) → Option (List (ℕ × ℕ)) → Pair → Type 0
RemovesLast old new written = (rest : List (ℕ × ℕ)) × (old ≡ rest ++ as_tuple written ∷ []) × (new ≡ Some rest)

-- the pair at an index is returned and was removed from the list, if there is one
abbrev pub ResultTakesAt : List (ℕ × ℕ) → ℕ → List (ℕ × ℕ) → Option (ℕ × ℕ) → Type 0
ResultTakesAt old i new taken = (taken ≡ slice_get old i) × (new ≡ remove old i)

-- the code is `none` for `None`, `some` for a value, which is then what C reads, and 2 for an
-- error; unless there is a value, what C reads is unchanged
abbrev pub HasCode : {X Y : Type 0} → ℕ → ℕ → (Y → X) → Result (Option X) AllocError → ℕ → Y → Y → Type 0
HasCode none some read outcome code old new = MatchResult outcome
    (λ found. MatchOption found ((code ≡ none) × (new ≡ old)) (λ it. (code ≡ some) × (it ≡ read new)))
    (λ _. (code ≡ 2) × (new ≡ old))

-- the codes of a removal that returns a pair
abbrev pub HasPairCode : Result (Option (ℕ × ℕ)) AllocError → ℕ → Pair → Pair → Type 0
HasPairCode = HasCode 0 1 as_tuple

-- the value that was at the key, or `None`, and the list with the new value there, or without the
-- key
abbrev pub IsPutAt : List (ℕ × ℕ) → ℕ → ℕ → Option ℕ → Option (List (ℕ × ℕ)) → Type 0
IsPutAt old key new was held = (value nat_cmp old key ≡ was) × (held ≡ Some (put nat_cmp old key new))

abbrev pub IsRemovedFrom : List (ℕ × ℕ) → ℕ → Option ℕ → Option (List (ℕ × ℕ)) → Type 0
IsRemovedFrom old key was held = (value nat_cmp old key ≡ was) × (held ≡ Some (del nat_cmp old key))

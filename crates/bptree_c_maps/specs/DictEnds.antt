-- The removal of the pair at an end of a map from byte strings, and what it writes.
use Rattle.std.specs.Prelude.{◌≡◌, ◌<◌, ◌≤◌, ℕ, List, [], ◌∷◌, ◌++◌, Option, Some, Result, IfOk, IfSome, MatchOption, MatchResult, length, drop}
use Rattle.std.specs.declared.alloc.AllocError.{AllocError}
use Rattle.bptree_c_maps.specs.Dict.{Pairs}

-- an array, a length and a value after a pair was written: the array begins with the pair's key,
-- and the rest of it is unchanged
abbrev pub written_record : List ℕ × ℕ → List ℕ → List ℕ × ℕ × ℕ
written_record pair out = (pair.0 ++ drop (length pair.0) out, length pair.0, pair.1)

-- the first pair was removed and written, and its key fitted into the array
abbrev pub DictPopsFirst : Pairs → Option Pairs → List ℕ → List ℕ × ℕ × ℕ → Type 0
DictPopsFirst old held out new = (pair : List ℕ × ℕ) × (rest : Pairs) × (old ≡ pair ∷ rest) × (held ≡ Some rest) × (length pair.0 ≤ length out) × (new ≡ written_record pair out)

-- the last pair was removed and written, and its key fitted into the array
abbrev pub DictPopsLast : Pairs → Option Pairs → List ℕ → List ℕ × ℕ × ℕ → Type 0
DictPopsLast old held out new = (pair : List ℕ × ℕ) × (rest : Pairs) × (old ≡ rest ++ pair ∷ []) × (held ≡ Some rest) × (length pair.0 ≤ length out) × (new ≡ written_record pair out)

-- the key of the pair at the end has so many bytes, and does not fit into the array
abbrev pub IsTooLong : Option (List ℕ × ℕ) → List ℕ → ℕ → Type 0
IsTooLong found out len = MatchOption found ⊥ (λ pair. (len ≡ length pair.0) × (length out < length pair.0))

-- a removed key fits into the array
abbrev pub fits_in : Result (Option (List ℕ × ℕ)) AllocError → List ℕ → Type 0
fits_in outcome out = IfOk outcome (λ gone. IfSome gone (λ pair. length pair.0 ≤ length out))

-- the code is 0 for no pair, 1 for a pair, which is then written, and 2 for an error; unless there
-- is a pair, nothing is written
abbrev pub HasPopCode : Result (Option (List ℕ × ℕ)) AllocError → ℕ → List ℕ → List ℕ × ℕ × ℕ → List ℕ × ℕ × ℕ → Type 0
HasPopCode outcome code out old new = MatchResult outcome
    (λ gone. MatchOption gone ((code ≡ 0) × (new ≡ old)) (λ pair. (code ≡ 1) × (new ≡ written_record pair out)))
    (λ _. (code ≡ 2) × (new ≡ old))

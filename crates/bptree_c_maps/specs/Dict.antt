-- Pairs of a byte string and a number, and what calls write and return of them.
use Rattle.std.specs.Prelude.{◌≡◌, ℕ, Bool, true, false, List, ◌++◌, Option, Some, None, length, slice_get, take, drop}
use Rattle.std.specs.List.{remove}
use Rattle.std.specs.Map.{values_of}
use Rattle.bptree_keys.specs.Contents.{value, put, del}
use Rattle.bptree_c_maps.specs.ByteKeys.{by_bytes}

-- pairs of a byte string and a number
abbrev pub Pairs : Type 0
Pairs = List (List ℕ × ℕ)

-- The values of an array, of a length and of a number before and after a call that writes a pair:
-- the array begins with as many of the key's bytes as it has room for, and the rest of it is
-- unchanged; the length is the key's whole length, and the number is the pair's value. If there is
-- no pair, nothing is written.
abbrev pub WritesPair : Option (List ℕ × ℕ) → Bool → List ℕ × ℕ × ℕ → List ℕ × ℕ × ℕ → Type 0
WritesPair None found old new = (found ≡ false) × (new ≡ old)
WritesPair (Some pair) found old new = (found ≡ true) × (new ≡ (take (length old.0) pair.0 ++ drop (length pair.0) old.0, length pair.0, pair.1))

-- an array, a key's length and a value are unchanged if no pair is found
abbrev pub WritesOnlyIf : Bool → List ℕ → ℕ → ℕ → List ℕ → ℕ → ℕ → Type 0
WritesOnlyIf found out len value new_out new_len new_value =
    found ≡ false → (new_out ≡ out) × (new_len ≡ len) × (new_value ≡ value)

-- the value that was at the key, or `None`, and the list with the new value there, or without the
-- key
abbrev pub IsPutIn : Pairs → List ℕ → ℕ → Option ℕ → Option Pairs → Type 0
IsPutIn old key new was held = (value by_bytes old key ≡ was) × (held ≡ Some (put by_bytes old key new))

abbrev pub IsRemovedKey : Pairs → List ℕ → Option ℕ → Option Pairs → Type 0
IsRemovedKey old key was held = (value by_bytes old key ≡ was) × (held ≡ Some (del by_bytes old key))

-- the pair at an index is removed, and its value is returned
abbrev pub IsRemovedAt : Pairs → ℕ → Option Pairs → ℕ → Type 0
IsRemovedAt old i new was = (slice_get (values_of old) i ≡ Some was) × (new ≡ Some (remove old i))

abbrev pub TakesValueAt : Pairs → ℕ → Pairs → Option ℕ → Type 0
TakesValueAt old i new was = (was ≡ slice_get (values_of old) i) × (new ≡ remove old i)

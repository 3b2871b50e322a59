-- The copies of many pairs in a caller's arrays.
use Rattle.std.specs.Prelude.{◌≡◌, ◌+◌, ◌<◌, ◌≤◌, ℕ, List, [], ◌∷◌, ◌++◌, Some, length, map, take, drop, slice_get}
use Rattle.std.specs.Map.{keys_of}
use Rattle.bptree_c_maps.specs.Dict.{Pairs}
use Rattle.bptree_c_maps.specs.declared.record.Record.{Record}
use Rattle.bptree_keys.specs.Pieces.{flatten}

-- a pair as C has it: the length of its key, and its value
abbrev pub as_record : List ℕ × ℕ → Record
as_record pair = record { length = length pair.0; value = pair.1 }

-- the bytes of the keys of the first pairs
abbrev pub key_bytes : Pairs → ℕ → List ℕ
key_bytes all count = flatten (keys_of (take count all))

-- the arrays begin with the first `count` pairs, and the rest of them is unchanged; if there is a
-- next pair, its key does not fit into the rest of the bytes
pub record IsPage (all : Pairs) (bytes : List ℕ) (out : List Record) (new_bytes : List ℕ) (new_out : List Record) (count : ℕ) : Type 0 where
  pub within : count ≤ length all
  pub keys : new_bytes ≡ key_bytes all count ++ drop (length (key_bytes all count)) bytes
  pub records : new_out ≡ map as_record (take count all) ++ drop count out
  pub full : (pair : List ℕ × ℕ) → slice_get all count ≡ Some pair → length bytes < length (key_bytes all count) + length pair.0

-- the pairs of these records, whose keys are one after another in the bytes
abbrev pub dict_pairs_of : List ℕ → List Record → Pairs
dict_pairs_of bytes [] = []
dict_pairs_of bytes (r ∷ rs) = (take r.length bytes, r.value) ∷ dict_pairs_of (drop r.length bytes) rs

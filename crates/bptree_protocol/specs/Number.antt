-- The numbers that words write.
use Rattle.std.specs.Prelude.{ℕ, ◌^◌, Bool, ◌&&◌, ◌||◌, not, List, length, slice_index, nat_lt, ◌==◌, if◌then◌else◌, Option, Some, None}
use Rattle.std.specs.Str.{all_ascii_digits}
use Rattle.std.specs.Str.Parse.{digits_value}

-- A word is a numeral if it is `0`, or a digit 1 to 9 followed by digits.
abbrev pub is_numeral : List ℕ → Bool
is_numeral word = nat_lt 0 (length word) && (all_ascii_digits word && (nat_lt (length word) 2 || not (slice_index word 0 == 48)))

-- The number that a word writes. `None` if the word is no numeral, or the number does not fit 64
-- bits.
unfoldable pub number_of : List ℕ → Option ℕ
number_of word = if is_numeral word && nat_lt (digits_value 10 word) (2 ^ 64) then Some (digits_value 10 word) else None

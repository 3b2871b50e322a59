-- Lemmas for the loop over the bytes of a word.
use Rattle.std.proofs.Common.{◌≡◌, ℕ, zero, suc, ◌+◌, ◌*◌, ◌-◌, ◌^◌, ◌<◌, ◌≤◌, List, [], ◌∷◌, length, get_or, take, true, false, refl, arith, rules, None}
use Rattle.std.specs.Char.{is_ascii_digit, digit_value}
use Rattle.std.specs.Str.{all_ascii_digits}
use Rattle.std.specs.Str.Parse.{digits_value}
use Rattle.std.proofs.lemmas.Int.Digits.{digits_value_more, digits_more}
use Rattle.std.proofs.lemmas.Str.Parse.{IsNumeralModel, numerals_by_value, tells_all_ascii_digits, digits_value-take-le}
use Rattle.std.proofs.lemmas.Bool.Decides.{nat_tests}
use Rattle.bptree_protocol.specs.Number.{number_of}

-- `all_ascii_digits` and `digits_value` are the model of numerals that std's lemmas need.
pub digits_model : IsNumeralModel (λ ds. all_ascii_digits ds ≡ true) (digits_value 10)
digits_model = numerals_by_value _ tells_all_ascii_digits

-- A word with a byte that is no digit does not consist of digits alone.
pub not_all_digits : (word : List ℕ) (i : ℕ) → i < length word → is_ascii_digit (get_or word i 0) ≡ false → all_ascii_digits word ≡ false
not_all_digits [] i h d = absurd (omega arith)
not_all_digits (b ∷ bs) zero h d = rw d refl
not_all_digits (b ∷ bs) (suc i) h d = rw (not_all_digits bs i (omega arith) d) (search rules)

-- Digits and one digit more are digits, and their value is ten times the old value plus the digit.
pub all_digits_more : (word : List ℕ) (i : ℕ) → i < length word → all_ascii_digits (take i word) ≡ true → digit_value (get_or word i 0) < 10
    → all_ascii_digits (take (i + 1) word) ≡ true
all_digits_more word i h all d = digits_model.from _ (digits_more 10 word i h (digits_model.to _ all) d)

-- If a word's front, with one digit more, is too large for 64 bits, the word's value is too large.
pub front_too_large : (word : List ℕ) (i : ℕ) → i < length word → 2 ^ 64 ≤ digits_value 10 (take i word) * 10 + digit_value (get_or word i 0)
    → 2 ^ 64 ≤ digits_value 10 word
front_too_large word i h large = let e = digits_value_more 10 word i h in let m = digits_value-take-le 10 word (i + 1) (omega arith) in omega arith

-- The value of a digit is its byte less 48.
pub digit_is : (b : ℕ) → is_ascii_digit b ≡ true → (digit_value b ≡ b - 48) × (b < 58) × (47 < b)
digit_is b d = grind arith

pub number_of_no_digits : (word : List ℕ) → all_ascii_digits word ≡ false → None ≡ number_of word
unfolding number_of
number_of_no_digits word h = grind (arith, nat_tests)

pub number_of_large : (word : List ℕ) → 2 ^ 64 ≤ digits_value 10 word → None ≡ number_of word
unfolding number_of
number_of_large word h = grind (arith, nat_tests)

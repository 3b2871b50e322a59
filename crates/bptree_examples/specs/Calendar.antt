-- Leap years, and the lengths of months.
use Rattle.std.specs.Prelude.{◌≡◌, ◌≢◌, ℕ, ◌%◌, ◌⊎◌}

-- A leap year is divisible by 4, and not by 100 unless by 400.
abbrev pub IsLeapYear : ℕ → Type 0
IsLeapYear year = (year % 4 ≡ 0) × ((year % 100 ≢ 0) ⊎ (year % 400 ≡ 0))

-- A month of 31 days.
abbrev pub IsLongMonth : ℕ → Type 0
IsLongMonth month = (month ≡ 1) ⊎ (month ≡ 3) ⊎ (month ≡ 5) ⊎ (month ≡ 7) ⊎ (month ≡ 8) ⊎ (month ≡ 10) ⊎ (month ≡ 12)

-- A month of 30 days.
abbrev pub IsShortMonth : ℕ → Type 0
IsShortMonth month = (month ≡ 4) ⊎ (month ≡ 6) ⊎ (month ≡ 9) ⊎ (month ≡ 11)

-- The numbers of dates of a list in one year, in one month and on one day, and the meaning of a
-- summary.
use Rattle.std.specs.Prelude.{◌≡◌, ℕ, ◌+◌, ◌-◌, ◌^◌, min, nat_eq, Bool, cond, ◌&&◌, List, length, slice_index_or, Some}
use Rattle.std.specs.List.{filter}
use Rattle.bptree_arguments.specs.Visits.{VisitResult, returned}
use Rattle.bptree_examples.specs.declared.examples.date_statistic.Counter.{Counter}
use Rattle.bptree_examples.specs.declared.examples.date_statistic.Date.{Date}
use Rattle.bptree_examples.specs.declared.examples.date_statistic.DateStatisticEntry.{DateStatisticEntry}
use Rattle.bptree_examples.specs.declared.examples.date_statistic.DateStatisticArgument.{DateStatisticArgument}

-- The dates share the year.
abbrev pub same_year : Date → Date → Bool
same_year a b = nat_eq a.year b.year

-- The dates share the year and the month.
abbrev pub same_month : Date → Date → Bool
same_month a b = nat_eq a.year b.year && nat_eq a.month b.month

-- The dates share the year, the month and the day.
abbrev pub same_day : Date → Date → Bool
same_day a b = nat_eq a.year b.year && nat_eq a.month b.month && nat_eq a.day b.day

-- The number of the dates in the year.
abbrev pub in_year : ℕ → List Date → ℕ
in_year year dates = length (filter (λ date. nat_eq year date.year) dates)

-- A counter with another one added if both are of the same time, saturating at the greatest 64-bit
-- number.
abbrev pub added_where : Bool → ℕ → ℕ → ℕ
added_where same counter other = min (counter + cond same other 0) (2 ^ 64 - 1)

-- The counters of a year, a month and a day, each with an entry's counter added if the entry's date
-- and a date share the year, the month or the day.
abbrev pub year_with : Counter → Date → DateStatisticEntry → ℕ
year_with counter date entry = added_where (same_year date entry.date) counter.year entry.counter.year

abbrev pub month_with : Counter → Date → DateStatisticEntry → ℕ
month_with counter date entry = added_where (same_month date entry.date) counter.month entry.counter.month

abbrev pub day_with : Counter → Date → DateStatisticEntry → ℕ
day_with counter date entry = added_where (same_day date entry.date) counter.day entry.counter.day

-- The counters are the numbers of dates that share the year, the month and the day with the entry's
-- date.
pub record IsEntry (dates : List Date) (entry : DateStatisticEntry) : Type 0 where
  pub year : entry.counter.year ≡ length (filter (same_year entry.date) dates)
  pub month : entry.counter.month ≡ length (filter (same_month entry.date) dates)
  pub day : entry.counter.day ≡ length (filter (same_day entry.date) dates)

-- The first and the last of the dates, if there are any, each with its counters.
pub record IsStatistic (statistic : DateStatisticArgument) (dates : List Date) : Type 0 where
  pub first : statistic.min.date ≡ slice_index_or dates 0 statistic.min.date
  pub last : statistic.max.date ≡ slice_index_or dates (length dates - 1) statistic.max.date
  pub least : IsEntry dates statistic.min
  pub greatest : IsEntry dates statistic.max

-- The one allowed result: the count so far plus the number of dates in the year.
abbrev pub IsYearResult : ℕ → ℕ → List Date → VisitResult ℕ → Type 0
IsYearResult year counted dates outcome = outcome ≡ returned (Some (min (counted + in_year year dates) (2 ^ 64 - 1)))

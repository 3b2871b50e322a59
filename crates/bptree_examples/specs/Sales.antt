-- Amounts of sales.
use Rattle.std.specs.Prelude.{ℕ, ◌-◌, ◌^◌, min, List, Some}
use Rattle.std.specs.declared.cmp.Ordering.{Ordering}
use Rattle.std.specs.List.{sum_by}
use Rattle.std.specs.Map.{keys_of}
use Rattle.bptree_keys.specs.Ranges.{between}
use Rattle.bptree_examples.specs.declared.uses.revenue.Sale.{Sale}

-- The sum of the amounts, saturating at the greatest 64-bit number.
abbrev pub sum_of_amounts : List Sale → ℕ
sum_of_amounts sales = min (sum_by (λ sale. sale.amount) sales) (2 ^ 64 - 1)

-- The least possible sale of a day. No sale of the day is before it, and each sale of an earlier
-- day is.
abbrev pub start_of_day : ℕ → Sale
start_of_day day = record { day = day; number = 0; amount = 0 }

-- The sum of the amounts of the sales of a ledger from one day on and before another.
abbrev pub taken_between : {V : Type 0} → (Sale → Sale → Ordering) → List (Sale × V) → ℕ → ℕ → ℕ
taken_between cmp ledger from to = sum_of_amounts (keys_of (between cmp ledger (Some (start_of_day from)) (Some (start_of_day to))))

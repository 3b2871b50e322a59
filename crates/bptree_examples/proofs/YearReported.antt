-- The result for a year of a visitor that has counted nothing yet.
use Rattle.std.proofs.Common.{◌≡◌, ℕ, ◌+◌, ◌-◌, ◌^◌, ◌<◌, min, nat_eq, List, length, Option, Some, None, ap, ◌∙◌, arith}
use Rattle.std.proofs.lemmas.List.Sums.{length-filter, count_by-le-length}
use Rattle.bptree_arguments.specs.Visits.{returned}
use Rattle.bptree_examples.specs.declared.examples.date_statistic.Date.{Date}
use Rattle.bptree_examples.specs.Dates.{in_year}
use Rattle.bptree_examples.proofs.Reported.{reported}

pub year_reported : (outcome : Option ℕ) (year y counted : ℕ) (dates : List Date) → returned outcome ≡ returned (Some (min (counted + in_year y dates) (2 ^ 64 - 1))) → y ≡ year → counted ≡ 0 → length dates < 2 ^ 64 → outcome ≡ Some (in_year year dates)
year_reported outcome year y counted dates e same zero fits =
    let value : min (counted + in_year y dates) (2 ^ 64 - 1) ≡ in_year y dates = omega (arith, zero, fits, length-filter (λ date. nat_eq y date.year) dates, count_by-le-length (λ date. nat_eq y date.year) dates) in
    ap (reported None) e ∙ ap Some (value ∙ ap (λ n. in_year n dates) same)

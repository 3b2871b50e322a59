-- The numbers of dates of a year in a child, before the child and behind it.
use Rattle.std.proofs.Common.{◌≡◌, ℕ, suc, ◌+◌, ◌-◌, ◌^◌, ◌<◌, ◌≤◌, min, nat_eq, List, [], ◌∷◌, ◌++◌, length, take, drop, get_or, sym, ap, ◌∙◌, subst, false, arith, length-append}
use Rattle.std.specs.List.{AllByRecursion, AllZip, filter}
use Rattle.std.specs.List.Sorted.{IsStrictlySortedBy}
use Rattle.std.proofs.lemmas.Bool.{ne_eqb}
use Rattle.std.proofs.lemmas.List.Elements.{filter-append}
use Rattle.bptree_arguments.proofs.RankLemmas.{filter_none}
use Rattle.bptree_keys.proofs.PieceLemmas.{AllByRecursion-at, AllByRecursion-weaker, AllZip-at, AllZip-length, flatten-cut, flatten-take_more, sorted_left, sorted_right}
use Rattle.bptree_keys.specs.Pieces.{flatten, piece_at, ArePieces}
use Rattle.bptree_examples.specs.declared.examples.date_statistic.Date.{Date}
use Rattle.bptree_examples.specs.declared.examples.date_statistic.DateStatisticArgument.{DateStatisticArgument}
use Rattle.bptree_examples.specs.Dates.{in_year, IsStatistic}
use Rattle.bptree_examples.proofs.DateOrder.{NotAfter, last_or, last_is, after_first, upto_last, beyond_last, date_order, in_order}

in_year-append : (year : ℕ) (xs ys : List Date) → in_year year (xs ++ ys) ≡ in_year year xs + in_year year ys
in_year-append year xs ys = ap length (filter-append (λ date. nat_eq year date.year) xs ys) ∙ length-append (filter (λ date. nat_eq year date.year) xs) _

none_later : (year : ℕ) (d : Date) (dates : List Date) → year < d.year → AllByRecursion (NotAfter d) dates → in_year year dates ≡ 0
none_later year d dates l all = ap length (filter_none (λ date. nat_eq year date.year) dates (AllByRecursion-weaker (NotAfter d) (λ date. nat_eq year date.year ≡ false) (λ x h. ne_eqb year x.year (λ e. omega (arith, l, h.year, e))) dates all))

none_earlier : (year : ℕ) (d : Date) (dates : List Date) → d.year < year → AllByRecursion (λ x. NotAfter x d) dates → in_year year dates ≡ 0
none_earlier year d dates l all = ap length (filter_none (λ date. nat_eq year date.year) dates (AllByRecursion-weaker (λ x. NotAfter x d) (λ date. nat_eq year date.year ≡ false) (λ x h. ne_eqb year x.year (λ e. omega (arith, l, h.year, e))) dates all))

-- A child's dates, and the dates behind them.
record IsChild (a : DateStatisticArgument) (dates back : List Date) : Type 0 where
  first_year : AllByRecursion (NotAfter a.min.date) (dates ++ back)
  last_year : AllByRecursion (λ x. NotAfter x a.max.date) dates
  behind : AllByRecursion (NotAfter a.max.date) back
  turned : a.min.date.year ≤ a.max.date.year

child : (a : DateStatisticArgument) (dates back : List Date) → 0 < length dates → IsStrictlySortedBy date_order (dates ++ back) → IsStatistic a dates → IsChild a dates back
child a [] back some asc s = absurd (omega (arith, some))
child a (x ∷ xs) back some asc s =
    let is : a.max.date ≡ last_or x xs = s.last ∙ last_is a.max.date (x ∷ xs) in
    let after : AllByRecursion (NotAfter x) (x ∷ (xs ++ back)) = after_first in_order x (xs ++ back) asc in
    let upto = upto_last in_order x xs (sorted_left date_order (x ∷ xs) back asc) in
    let beyond = beyond_last in_order x xs back asc in
    record {
      first_year = subst (λ f. AllByRecursion (NotAfter f) (x ∷ (xs ++ back))) (sym s.first) after;
      last_year = subst (λ f. AllByRecursion (λ y. NotAfter y f) (x ∷ xs)) (sym is) upto;
      behind = subst (λ f. AllByRecursion (NotAfter f) back) (sym is) beyond;
      turned = subst (λ f. f.year ≤ a.max.date.year) (sym s.first) (subst (λ f. x.year ≤ f.year) (sym is) upto.0.year);
    }

module _ (year start counted : ℕ) (pieces : List (List Date)) (are : ArePieces date_order pieces) (arguments : List DateStatisticArgument) (summaries : AllZip IsStatistic arguments pieces) (i : ℕ) (l : i < length arguments) (d : DateStatisticArgument) (so_far : counted ≡ min (start + in_year year (flatten (take i pieces))) (2 ^ 64 - 1)) where
  abbrev a : DateStatisticArgument
  a = get_or arguments i d

  abbrev here : List Date
  here = piece_at pieces i

  abbrev back : List Date
  back = flatten (drop (suc i) pieces)

  inside : i < length pieces
  inside = omega (arith, AllZip-length IsStatistic arguments pieces summaries, l)

  summary : IsStatistic a here
  summary = AllZip-at IsStatistic arguments pieces i d [] summaries l

  its : IsChild a here back
  its =
      let asc : IsStrictlySortedBy date_order (flatten (take i pieces) ++ (here ++ back)) = rw (flatten-cut pieces i inside) at are.ascending in
      child a here back (AllByRecursion-at (λ p. 0 < length p) pieces i [] inside are.nonempty) (sorted_right date_order (flatten (take i pieces)) (here ++ back) asc) summary

  more : in_year year (flatten (take (i + 1) pieces)) ≡ in_year year (flatten (take i pieces)) + in_year year here
  more = ap (in_year year) (flatten-take_more pieces i inside) ∙ in_year-append year (flatten (take i pieces)) here

  whole : in_year year (flatten pieces) ≡ in_year year (flatten (take i pieces)) + in_year year (here ++ back)
  whole = ap (in_year year) (flatten-cut pieces i inside) ∙ in_year-append year (flatten (take i pieces)) (here ++ back)

  -- The year ends before the child.
  pub over : year < a.min.date.year → counted ≡ min (start + in_year year (flatten pieces)) (2 ^ 64 - 1)
  over h = omega (arith, so_far, whole, none_later year a.min.date (here ++ back) h its.first_year)

  -- The year begins behind the child.
  pub not_yet : (a.max.date.year ≡ year → ⊥) → a.max.date.year ≤ year → counted ≡ min (start + in_year year (flatten (take (i + 1) pieces))) (2 ^ 64 - 1)
  not_yet other h = let below : a.max.date.year < year = omega (arith, other, h) in omega (arith, so_far, more, none_earlier year a.max.date here below its.last_year)

  -- The child ends in the year.
  pub ends_in : a.max.date.year ≡ year → min (counted + a.max.counter.year) (2 ^ 64 - 1) ≡ min (start + in_year year (flatten (take (i + 1) pieces))) (2 ^ 64 - 1)
  ends_in h = let here_is : a.max.counter.year ≡ in_year year here = subst (λ y. a.max.counter.year ≡ in_year y here) h summary.greatest.year in omega (arith, so_far, more, here_is)

  -- The year ends in the child.
  pub within : year < a.max.date.year → min (counted + in_year year here) (2 ^ 64 - 1) ≡ min (start + in_year year (flatten pieces)) (2 ^ 64 - 1)
  within h = omega (arith, so_far, whole, in_year-append year here back, none_later year a.max.date back h its.behind)

  -- The year is that of the child's first date, and ends in the child.
  pub begins_in : year < a.max.date.year → a.min.date.year ≡ year → min (counted + a.min.counter.year) (2 ^ 64 - 1) ≡ min (start + in_year year (flatten pieces)) (2 ^ 64 - 1)
  begins_in h e = let here_is : a.min.counter.year ≡ in_year year here = subst (λ y. a.min.counter.year ≡ in_year y here) e summary.least.year in omega (arith, within h, here_is)

  -- No child ends before it begins.
  pub never_turned : (a.max.date.year ≡ year → ⊥) → a.max.date.year ≤ year → a.min.date.year ≡ year → ⊥
  never_turned other h e = omega (arith, other, h, e, its.turned)

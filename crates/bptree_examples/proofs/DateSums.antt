-- The summary of a node's dates, computed from the summaries of its children.
use Rattle.std.proofs.Common.{◌≡◌, ℕ, ◌+◌, ◌-◌, ◌^◌, ◌<◌, min, Bool, true, false, cond, List, [], ◌∷◌, length, take, get_or, inl, inr, refl, sym, ap, ◌∙◌, subst, arith}
use Rattle.std.specs.declared.cmp.Ordering.{Ordering}
use Rattle.std.specs.declared.cmp.Ordering.TheVariants.{Less}
use Rattle.std.specs.List.{AllByRecursion, AllZip, filter, sum_by}
use Rattle.std.specs.List.Sorted.{IsStrictlySortedBy}
use Rattle.std.proofs.lemmas.Bool.{true≢false, false_from_ne_true}
use Rattle.std.proofs.lemmas.List.Elements.{filter_agree}
use Rattle.std.proofs.lemmas.List.{length-take}
use Rattle.std.proofs.lemmas.List.Filters.{length-filter_more}
use Rattle.std.proofs.lemmas.List.Sums.{length-filter, count_by-le-length, sum_by_more}
use Rattle.bptree_arguments.proofs.CountLemmas.{sum_by-filters}
use Rattle.bptree_arguments.proofs.RankLemmas.{filter_none}
use Rattle.bptree_keys.proofs.PieceLemmas.{AllByRecursion-left, AllByRecursion-right, AllByRecursion-weaker, sorted_left, sorted_right}
use Rattle.bptree_keys.specs.Pieces.{flatten, AllNonEmpty, ArePieces}
use Rattle.bptree_examples.specs.declared.examples.date_statistic.Counter.{Counter}
use Rattle.bptree_examples.specs.declared.examples.date_statistic.Date.{Date}
use Rattle.bptree_examples.specs.declared.examples.date_statistic.DateStatisticEntry.{DateStatisticEntry}
use Rattle.bptree_examples.specs.declared.examples.date_statistic.DateStatisticArgument.{DateStatisticArgument}
use Rattle.bptree_examples.specs.Dates.{same_year, same_month, same_day, IsEntry, IsStatistic}
use Rattle.bptree_examples.proofs.DateOrder.{NotAfter, Between, IsTest, year_test, month_test, day_test, last_or, last_is, last_or-append, last_or-all, after_first, upto_last}

-- The amount that an entry's counter adds to the count for a date.
abbrev pub share : (Date → Date → Bool) → (Counter → ℕ) → Date → DateStatisticEntry → ℕ
share T counted date entry = cond (T date entry.date) (counted entry.counter) 0

-- The counters have the sums of the entries at one end of the children, or the greatest number if a
-- sum is greater.
pub record IsSum (date : Date) (end : DateStatisticArgument → DateStatisticEntry) (arguments : List DateStatisticArgument) (counter : Counter) : Type 0 where
  pub year : counter.year ≡ min (sum_by (λ a. share same_year (λ c. c.year) date (end a)) arguments) (2 ^ 64 - 1)
  pub month : counter.month ≡ min (sum_by (λ a. share same_month (λ c. c.month) date (end a)) arguments) (2 ^ 64 - 1)
  pub day : counter.day ≡ min (sum_by (λ a. share same_day (λ c. c.day) date (end a)) arguments) (2 ^ 64 - 1)

module _ (T : Date → Date → Bool) (t : IsTest T) (date e : Date) where
  -- If e lies between the date and each date of a list, the dates of the list that are like the
  -- date are those like e, or there are none of them.
  shared : (dates : List Date) → AllByRecursion (λ x. Between date e x) dates → cond (T date e) (length (filter (T e) dates)) 0 ≡ length (filter (T date) dates)
  shared dates between = by (T date e) refl where
    by : (b : Bool) → T date e ≡ b → cond b (length (filter (T e) dates)) 0 ≡ length (filter (T date) dates)
    by true h = sym (ap length (filter_agree (T date) (T e) (λ x. t.agrees date e x h) dates))
    by false h = sym (ap length (filter_none (T date) dates (AllByRecursion-weaker (λ x. Between date e x) (λ x. T date x ≡ false) (λ x w. false_from_ne_true (T date x) (λ k. true≢false (sym (t.within date e x w k) ∙ h))) dates between)))

module _ (T : Date → Date → Bool) (t : IsTest T) (counted : Counter → ℕ) (end : DateStatisticArgument → DateStatisticEntry) (known : (a : DateStatisticArgument) (dates : List Date) → IsStatistic a dates → counted (end a).counter ≡ length (filter (T (end a).date) dates)) (date : Date) where
  shares : (arguments : List DateStatisticArgument) (pieces : List (List Date)) → AllZip IsStatistic arguments pieces → AllZip (λ a p. AllByRecursion (λ x. Between date (end a).date x) p) arguments pieces → AllZip (λ a p. share T counted date (end a) ≡ length (filter (T date) p)) arguments pieces
  shares [] [] h k = tt
  shares [] (p ∷ ps) h k = absurd h
  shares (a ∷ rest) [] h k = absurd h
  shares (a ∷ rest) (p ∷ ps) h k = (ap (λ n. cond (T date (end a).date) n 0) (known a p h.0) ∙ shared T t date (end a).date p k.0, shares rest ps h.1 k.1)

  summed : (arguments : List DateStatisticArgument) (pieces : List (List Date)) → length (flatten pieces) < 2 ^ 64 → AllZip IsStatistic arguments pieces → AllZip (λ a p. AllByRecursion (λ x. Between date (end a).date x) p) arguments pieces → (n : ℕ) → n ≡ min (sum_by (λ a. share T counted date (end a)) arguments) (2 ^ 64 - 1) → n ≡ length (filter (T date) (flatten pieces))
  summed arguments pieces fits h k n e =
      let exact = sum_by-filters (λ a. share T counted date (end a)) (T date) arguments pieces (shares arguments pieces h k) in
      omega (arith, e, exact, length-filter (T date) (flatten pieces), count_by-le-length (T date) (flatten pieces), fits)

-- The counters of the whole list of dates.
entry_summed : (end : DateStatisticArgument → DateStatisticEntry) → ((a : DateStatisticArgument) (dates : List Date) → IsStatistic a dates → IsEntry dates (end a)) → (arguments : List DateStatisticArgument) (pieces : List (List Date)) → length (flatten pieces) < 2 ^ 64 → AllZip IsStatistic arguments pieces → (entry : DateStatisticEntry) → AllZip (λ a p. AllByRecursion (λ x. Between entry.date (end a).date x) p) arguments pieces → IsSum entry.date end arguments entry.counter → IsEntry (flatten pieces) entry
entry_summed end known arguments pieces fits h entry k sum = record {
  year = summed same_year year_test (λ c. c.year) end (λ a p s. (known a p s).year) entry.date arguments pieces fits h k entry.counter.year sum.year;
  month = summed same_month month_test (λ c. c.month) end (λ a p s. (known a p s).month) entry.date arguments pieces fits h k entry.counter.month sum.month;
  day = summed same_day day_test (λ c. c.day) end (λ a p s. (known a p s).day) entry.date arguments pieces fits h k entry.counter.day sum.day;
}

module _ {cmp : Date → Date → Ordering} (ordered : (a b : Date) → cmp a b ≡ Less → NotAfter a b) where
  -- The first date of a child lies between the first of all dates and each date of the child, and
  -- so does the last.
  first_here : (date : Date) (a : DateStatisticArgument) (p : List Date) → IsStatistic a p → IsStrictlySortedBy cmp p → AllByRecursion (NotAfter date) p → AllByRecursion (λ x. Between date a.min.date x) p
  first_here date a [] s asc all = tt
  first_here date a (x ∷ xs) s asc all =
      subst (λ f. AllByRecursion (λ y. Between date f y) (x ∷ xs)) (sym s.first) (AllByRecursion-weaker (NotAfter x) (λ y. Between date x y) (λ y h. inl (all.0, h)) (x ∷ xs) (after_first ordered x xs asc))

  last_here : (date : Date) (a : DateStatisticArgument) (p : List Date) → IsStatistic a p → IsStrictlySortedBy cmp p → AllByRecursion (λ x. NotAfter x date) p → AllByRecursion (λ x. Between date a.max.date x) p
  last_here date a [] s asc all = tt
  last_here date a (x ∷ xs) s asc all =
      let is : a.max.date ≡ last_or x xs = s.last ∙ last_is a.max.date (x ∷ xs) in
      subst (λ f. AllByRecursion (λ y. Between date f y) (x ∷ xs)) (sym is) (AllByRecursion-weaker (λ y. NotAfter y (last_or x xs)) (λ y. Between date (last_or x xs) y) (λ y h. inr (h, last_or-all (λ z. NotAfter z date) x xs all.0 all.1)) (x ∷ xs) (upto_last ordered x xs asc))

  firsts : (date : Date) (arguments : List DateStatisticArgument) (pieces : List (List Date)) → AllZip IsStatistic arguments pieces → IsStrictlySortedBy cmp (flatten pieces) → AllByRecursion (NotAfter date) (flatten pieces) → AllZip (λ a p. AllByRecursion (λ x. Between date a.min.date x) p) arguments pieces
  firsts date [] [] h asc all = tt
  firsts date [] (p ∷ ps) h asc all = absurd h
  firsts date (a ∷ rest) [] h asc all = absurd h
  firsts date (a ∷ rest) (p ∷ ps) h asc all = (first_here date a p h.0 (sorted_left cmp p (flatten ps) asc) (AllByRecursion-left (NotAfter date) p (flatten ps) all), firsts date rest ps h.1 (sorted_right cmp p (flatten ps) asc) (AllByRecursion-right (NotAfter date) p (flatten ps) all))

  lasts : (date : Date) (arguments : List DateStatisticArgument) (pieces : List (List Date)) → AllZip IsStatistic arguments pieces → IsStrictlySortedBy cmp (flatten pieces) → AllByRecursion (λ x. NotAfter x date) (flatten pieces) → AllZip (λ a p. AllByRecursion (λ x. Between date a.max.date x) p) arguments pieces
  lasts date [] [] h asc all = tt
  lasts date [] (p ∷ ps) h asc all = absurd h
  lasts date (a ∷ rest) [] h asc all = absurd h
  lasts date (a ∷ rest) (p ∷ ps) h asc all = (last_here date a p h.0 (sorted_left cmp p (flatten ps) asc) (AllByRecursion-left (λ x. NotAfter x date) p (flatten ps) all), lasts date rest ps h.1 (sorted_right cmp p (flatten ps) asc) (AllByRecursion-right (λ x. NotAfter x date) p (flatten ps) all))

  -- The first of all dates is the first date of the first child, and the last is the last date of
  -- the last child.
  first_of_all : (a : DateStatisticArgument) (rest : List DateStatisticArgument) (pieces : List (List Date)) → AllZip IsStatistic (a ∷ rest) pieces → AllNonEmpty pieces → a.min.date ≡ get_or (flatten pieces) 0 a.min.date
  first_of_all a rest [] h n = absurd h
  first_of_all a rest ([] ∷ ps) h n = absurd (omega (arith, n.0))
  first_of_all a rest ((x ∷ xs) ∷ ps) h n = h.0.first

  last_of_all : (a : DateStatisticArgument) (rest : List DateStatisticArgument) (pieces : List (List Date)) (d : Date) → AllZip IsStatistic (a ∷ rest) pieces → AllNonEmpty pieces → (last_or a rest).max.date ≡ last_or d (flatten pieces)
  last_of_all a rest [] d h n = absurd h
  last_of_all a rest ([] ∷ ps) d h n = absurd (omega (arith, n.0))
  last_of_all a [] ((x ∷ xs) ∷ []) d h n = h.0.last ∙ last_is a.max.date (x ∷ xs) ∙ sym (last_or-append x xs [])
  last_of_all a [] (p ∷ q ∷ ps) d h n = absurd h.1
  last_of_all a (b ∷ bs) ((x ∷ xs) ∷ ps) d h n = last_of_all b bs ps (last_or x xs) h.1 n.1 ∙ sym (last_or-append x xs (flatten ps))

  all_after : (dates : List Date) (d : Date) → IsStrictlySortedBy cmp dates → d ≡ get_or dates 0 d → AllByRecursion (NotAfter d) dates
  all_after [] d asc e = tt
  all_after (x ∷ xs) d asc e = subst (λ f. AllByRecursion (NotAfter f) (x ∷ xs)) (sym e) (after_first ordered x xs asc)

  all_upto : (dates : List Date) (d : Date) → IsStrictlySortedBy cmp dates → d ≡ last_or d dates → AllByRecursion (λ x. NotAfter x d) dates
  all_upto [] d asc e = tt
  all_upto (x ∷ xs) d asc e = subst (λ f. AllByRecursion (λ y. NotAfter y f) (x ∷ xs)) (sym e) (upto_last ordered x xs asc)

  pub whole_summed : (arguments : List DateStatisticArgument) (pieces : List (List Date)) → ArePieces cmp pieces → AllZip IsStatistic arguments pieces → (least greatest : DateStatisticEntry) (d : DateStatisticArgument) → 0 < length arguments → least.date ≡ (get_or arguments 0 d).min.date → greatest.date ≡ (get_or arguments (length arguments - 1) d).max.date → IsSum least.date (λ b. b.min) arguments least.counter → IsSum greatest.date (λ b. b.max) arguments greatest.counter → IsStatistic (record { min = least; max = greatest }) (flatten pieces)
  whole_summed [] pieces are h least greatest d some low_is high_is low high = absurd (omega (arith, some))
  whole_summed (a ∷ rest) pieces are h least greatest d some low_is high_is low high =
      let first : least.date ≡ get_or (flatten pieces) 0 least.date = subst (λ f. f ≡ get_or (flatten pieces) 0 f) (sym low_is) (first_of_all a rest pieces h are.nonempty) in
      let last : greatest.date ≡ last_or greatest.date (flatten pieces) = high_is ∙ ap (λ b. b.max.date) (last_is d (a ∷ rest)) ∙ last_of_all a rest pieces greatest.date h are.nonempty in
      record {
        first = first;
        last = last ∙ sym (last_is greatest.date (flatten pieces));
        least = entry_summed (λ b. b.min) (λ b p s. s.least) (a ∷ rest) pieces are.fits h least (firsts least.date (a ∷ rest) pieces h are.ascending (all_after (flatten pieces) least.date are.ascending first)) low;
        greatest = entry_summed (λ b. b.max) (λ b p s. s.greatest) (a ∷ rest) pieces are.fits h greatest (lasts greatest.date (a ∷ rest) pieces h are.ascending (all_upto (flatten pieces) greatest.date are.ascending last)) high;
      }

-- The counters with one more child.
pub more_summed : (date : Date) (end : DateStatisticArgument → DateStatisticEntry) (arguments : List DateStatisticArgument) (i : ℕ) (d : DateStatisticArgument) (before after : Counter) → i < length arguments → IsSum date end (take i arguments) before → after.year ≡ min (before.year + share same_year (λ c. c.year) date (end (get_or arguments i d))) (2 ^ 64 - 1) → after.month ≡ min (before.month + share same_month (λ c. c.month) date (end (get_or arguments i d))) (2 ^ 64 - 1) → after.day ≡ min (before.day + share same_day (λ c. c.day) date (end (get_or arguments i d))) (2 ^ 64 - 1) → IsSum date end (take (i + 1) arguments) after
more_summed date end arguments i d before after l sum year month day = record {
  year = omega (arith, year, sum.year, sum_by_more (λ a. share same_year (λ c. c.year) date (end a)) arguments i d l);
  month = omega (arith, month, sum.month, sum_by_more (λ a. share same_month (λ c. c.month) date (end a)) arguments i d l);
  day = omega (arith, day, sum.day, sum_by_more (λ a. share same_day (λ c. c.day) date (end a)) arguments i d l);
}

-- The counters with one more date.
pub more_counted : (date : Date) (dates : List Date) (i : ℕ) (d : Date) (before after : Counter) → i < length dates → length dates < 2 ^ 64 → IsEntry (take i dates) (record { date = date; counter = before }) → after.year ≡ min (before.year + cond (same_year date (get_or dates i d)) 1 0) (2 ^ 64 - 1) → after.month ≡ min (before.month + cond (same_month date (get_or dates i d)) 1 0) (2 ^ 64 - 1) → after.day ≡ min (before.day + cond (same_day date (get_or dates i d)) 1 0) (2 ^ 64 - 1) → IsEntry (take (i + 1) dates) (record { date = date; counter = after })
more_counted date dates i d before after l fits entry year month day = record {
  year = within same_year before.year after.year entry.year year;
  month = within same_month before.month after.month entry.month month;
  day = within same_day before.day after.day entry.day day;
}
  where
    within : (T : Date → Date → Bool) (m n : ℕ) → m ≡ length (filter (T date) (take i dates)) → n ≡ min (m + cond (T date (get_or dates i d)) 1 0) (2 ^ 64 - 1) → n ≡ length (filter (T date) (take (i + 1) dates))
    within T m n e f = omega (arith, e, f, length-filter_more (T date) dates i d l, length-filter (T date) (take (i + 1) dates), count_by-le-length (T date) (take (i + 1) dates), length-take (i + 1) dates, fits)

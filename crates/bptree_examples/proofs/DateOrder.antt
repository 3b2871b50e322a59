-- Dates in order, and tests of whether two dates share a year, a month or a day.
use Rattle.std.proofs.Common.{◌≡◌, suc, ◌-◌, ◌≤◌, nat_eq, ◌&&◌, Bool, true, List, [], ◌∷◌, ◌++◌, length, get_or, ◌⊎◌, inl, inr, refl, sym, ap, ◌∙◌, arith}
use Rattle.std.specs.declared.cmp.Ordering.{Ordering}
use Rattle.std.specs.declared.cmp.Ordering.TheVariants.{Less, Equal, Greater}
use Rattle.std.specs.Cmp.{ranked}
use Rattle.std.specs.Ordering.{nat_cmp, ordering_then}
use Rattle.std.specs.List.{AllByRecursion}
use Rattle.std.specs.List.Sorted.{IsStrictlySortedBy}
use Rattle.std.proofs.lemmas.Bool.{eqb-true, eq-eqb, and_parts, and_from}
use Rattle.bptree_examples.specs.declared.examples.date_statistic.Date.{Date}
use Rattle.bptree_examples.specs.contracts.examples.date_statistic.DateOrd.TheImpl.{cmp-value}
use Rattle.bptree_examples.specs.Dates.{same_year, same_month, same_day}
use Rattle.bptree_keys.proofs.PieceLemmas.{AllByRecursion-weaker}

-- Date a is b or comes before b.
pub record NotAfter (a b : Date) : Type 0 where
  pub year : a.year ≤ b.year
  pub month : a.year ≡ b.year → a.month ≤ b.month
  pub day : a.year ≡ b.year → a.month ≡ b.month → a.day ≤ b.day

pub itself : (a : Date) → NotAfter a a
itself a = record { year = omega arith; month = λ e. omega arith; day = λ e f. omega arith }

-- Date b lies between a and c, whichever of these comes first.
abbrev pub Between : Date → Date → Date → Type 0
Between a b c = (NotAfter a b × NotAfter b c) ⊎ (NotAfter c b × NotAfter b a)

-- A test of two dates. If it holds of two dates, it holds of all dates between them, and both have
-- the same results with every other date.
pub record IsTest (T : Date → Date → Bool) : Type 0 where
  pub within : (a b c : Date) → Between a b c → T a c ≡ true → T a b ≡ true
  pub agrees : (a b x : Date) → T a b ≡ true → T a x ≡ T b x

year_between : (a b c : Date) → Between a b c → a.year ≡ c.year → a.year ≡ b.year
year_between a b c between e = elim between [ inl h ↦ omega (arith, h.0.year, h.1.year) | inr h ↦ omega (arith, h.0.year, h.1.year) ]

month_between : (a b c : Date) → Between a b c → a.year ≡ c.year → a.month ≡ c.month → a.month ≡ b.month
month_between a b c between e f =
    let y = year_between a b c between e in
    elim between [
      | inl h ↦ omega (arith, f, h.0.month y, h.1.month (sym y ∙ e))
      | inr h ↦ omega (arith, f, h.0.month (sym e ∙ y), h.1.month (sym y))
    ]

day_between : (a b c : Date) → Between a b c → a.year ≡ c.year → a.month ≡ c.month → a.day ≡ c.day → a.day ≡ b.day
day_between a b c between e f g =
    let y = year_between a b c between e in
    let m = month_between a b c between e f in
    elim between [
      | inl h ↦ omega (arith, g, h.0.day y m, h.1.day (sym y ∙ e) (sym m ∙ f))
      | inr h ↦ omega (arith, g, h.0.day (sym e ∙ y) (sym f ∙ m), h.1.day (sym y) (sym m))
    ]

pub year_test : IsTest same_year
year_test = record {
  within = λ a b c between h. eq-eqb a.year b.year (year_between a b c between (eqb-true a.year c.year h));
  agrees = λ a b x h. ap (λ n. nat_eq n x.year) (eqb-true a.year b.year h);
}

pub month_test : IsTest same_month
month_test = record {
  within = λ a b c between h.
      let parts = and_parts (nat_eq a.year c.year) (nat_eq a.month c.month) h in
      let e = eqb-true a.year c.year parts.0 in
      and_from (nat_eq a.year b.year) (nat_eq a.month b.month) (eq-eqb a.year b.year (year_between a b c between e)) (eq-eqb a.month b.month (month_between a b c between e (eqb-true a.month c.month parts.1)));
  agrees = λ a b x h.
      let parts = and_parts (nat_eq a.year b.year) (nat_eq a.month b.month) h in
      rw (eqb-true a.year b.year parts.0, eqb-true a.month b.month parts.1) refl;
}

pub day_test : IsTest same_day
day_test = record {
  within = λ a b c between h.
      let parts = and_parts (nat_eq a.year c.year && nat_eq a.month c.month) (nat_eq a.day c.day) h in
      let first = and_parts (nat_eq a.year c.year) (nat_eq a.month c.month) parts.0 in
      let e = eqb-true a.year c.year first.0 in
      let f = eqb-true a.month c.month first.1 in
      and_from (nat_eq a.year b.year && nat_eq a.month b.month) (nat_eq a.day b.day) (and_from (nat_eq a.year b.year) (nat_eq a.month b.month) (eq-eqb a.year b.year (year_between a b c between e)) (eq-eqb a.month b.month (month_between a b c between e f))) (eq-eqb a.day b.day (day_between a b c between e f (eqb-true a.day c.day parts.1)));
  agrees = λ a b x h.
      let parts = and_parts (nat_eq a.year b.year && nat_eq a.month b.month) (nat_eq a.day b.day) h in
      let first = and_parts (nat_eq a.year b.year) (nat_eq a.month b.month) parts.0 in
      rw (eqb-true a.year b.year first.0, eqb-true a.month b.month first.1, eqb-true a.day b.day parts.1) refl;
}

-- The last member of a list, or d if the list is empty.
abbrev pub last_or : {X : Type 0} → X → List X → X
last_or d [] = d
last_or d (x ∷ xs) = last_or x xs

last_at : {X : Type 0} (d x : X) (xs : List X) → get_or (x ∷ xs) (length xs) d ≡ last_or x xs
last_at d x [] = refl
last_at d x (y ∷ ys) = last_at d y ys

pub last_is : {X : Type 0} (d : X) (xs : List X) → get_or xs (length xs - 1) d ≡ last_or d xs
last_is d [] = refl
last_is d (x ∷ xs) = let e : suc (length xs) - 1 ≡ length xs = omega arith in rw e (last_at d x xs)

pub last_or-append : {X : Type 0} (d : X) (xs ys : List X) → last_or d (xs ++ ys) ≡ last_or (last_or d xs) ys
last_or-append d [] ys = refl
last_or-append d (x ∷ xs) ys = last_or-append x xs ys

pub last_or-all : {X : Type 0} (P : X → Type 0) (x : X) (xs : List X) → P x → AllByRecursion P xs → P (last_or x xs)
last_or-all P x [] h k = h
last_or-all P x (y ∷ ys) h k = last_or-all P y ys k.0 k.1

module _ {cmp : Date → Date → Ordering} (ordered : (a b : Date) → cmp a b ≡ Less → NotAfter a b) where
  -- The first of ascending dates is not after any of them, and the last is not before any.
  pub after_first : (x : Date) (xs : List Date) → IsStrictlySortedBy cmp (x ∷ xs) → AllByRecursion (NotAfter x) (x ∷ xs)
  unfolding IsStrictlySortedBy
  after_first x xs h = (itself x, AllByRecursion-weaker (λ y. cmp x y ≡ Less) (NotAfter x) (λ y. ordered x y) xs h.0)

  pub upto_last : (x : Date) (xs : List Date) → IsStrictlySortedBy cmp (x ∷ xs) → AllByRecursion (λ y. NotAfter y (last_or x xs)) (x ∷ xs)
  unfolding IsStrictlySortedBy
  upto_last x [] h = (itself x, tt)
  upto_last x (y ∷ ys) h = (last_or-all (NotAfter x) y ys (ordered x y h.0.0) (AllByRecursion-weaker (λ z. cmp x z ≡ Less) (NotAfter x) (λ z. ordered x z) ys h.0.1), upto_last y ys h.1)

  -- The dates behind a front of ascending dates are after the last date of the front.
  pub beyond_last : (x : Date) (xs back : List Date) → IsStrictlySortedBy cmp (x ∷ (xs ++ back)) → AllByRecursion (NotAfter (last_or x xs)) back
  unfolding IsStrictlySortedBy
  beyond_last x [] back h = AllByRecursion-weaker (λ y. cmp x y ≡ Less) (NotAfter x) (λ y. ordered x y) back h.0
  beyond_last x (y ∷ ys) back h = beyond_last y ys back h.1

-- The order of dates.
abbrev pub date_order : Date → Date → Ordering
date_order = cmp-value.it

pub in_order : (a b : Date) → date_order a b ≡ Less → NotAfter a b
in_order a b h = by (nat_cmp a.year b.year) refl (nat_cmp a.month b.month) refl (nat_cmp a.day b.day) refl h where
  by : (r : Ordering) → r ≡ nat_cmp a.year b.year → (s : Ordering) → s ≡ nat_cmp a.month b.month → (t : Ordering) → t ≡ nat_cmp a.day b.day → ordering_then r (ordering_then s t) ≡ Less → NotAfter a b
  by Less e s f t g k = let l = ranked a.year b.year Less e in record { year = omega (arith, l); month = λ same. absurd (omega (arith, l, same)); day = λ same more. absurd (omega (arith, l, same)) }
  by Equal e Less f t g k =
      let l = ranked a.year b.year Equal e in
      let m = ranked a.month b.month Less f in
      record { year = omega (arith, l); month = λ same. omega (arith, m); day = λ same more. absurd (omega (arith, m, more)) }
  by Equal e Equal f Less g k =
      let l = ranked a.year b.year Equal e in
      let m = ranked a.month b.month Equal f in
      let n = ranked a.day b.day Less g in
      record { year = omega (arith, l); month = λ same. omega (arith, m); day = λ same more. omega (arith, n) }
  by Equal e Equal f Equal g k = cc
  by Equal e Equal f Greater g k = cc
  by Equal e Greater f t g k = cc
  by Greater e s f t g k = cc

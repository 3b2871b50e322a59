-- Summaries of groups that are combined one after another.
use Rattle.std.proofs.Common.{◌≡◌, ℕ, zero, suc, ◌+◌, ◌-◌, ◌^◌, ◌<◌, ◌≤◌, min, List, [], ◌∷◌, length, take, drop, drop-cons, get_or, ◌++◌, Option, Some, None, false, cond, refl, sym, ap, ◌∙◌, arith}
use Rattle.std.specs.declared.cmp.Ordering.{Ordering}
use Rattle.std.specs.declared.cmp.Ordering.TheVariants.{Less, Equal, Greater}
use Rattle.std.specs.Ordering.{is_eq}
use Rattle.std.specs.Cmp.{IsTotalOrder}
use Rattle.std.proofs.Math.Seq.{drop-length}
use Rattle.std.proofs.lemmas.Cmp.{alike_right}
use Rattle.std.proofs.lemmas.List.{take-append-drop}
use Rattle.std.proofs.lemmas.List.Sums.{fold-append, fold_more}
use Rattle.bptree_arguments.specs.declared.group.GroupCount.{GroupCount}
use Rattle.bptree_arguments.specs.GroupSums.{Reported, summary_of_group, combined_options, combined_all, greatest_of, carried_past, carried_over}

module _ {G : Type 0} (R : G → G → Ordering) where
  -- the contents after one more summary
  pub more_reported : (xs : List (GroupCount G)) (i : ℕ) (x : GroupCount G) → i < length xs → x ≡ get_or xs i x → (whole : Option (Reported G)) → whole ≡ combined_all R (take i xs) → combined_options R whole (summary_of_group x) ≡ combined_all R (take (i + 1) xs)
  more_reported xs i x inside is whole before =
      let step : combined_all R (take (i + 1) xs) ≡ combined_options R (combined_all R (take i xs)) (summary_of_group (get_or xs i x)) = fold_more (λ w s. combined_options R w (summary_of_group s)) None xs i x inside in
      let here : combined_options R whole (summary_of_group x) ≡ combined_options R (combined_all R (take i xs)) (summary_of_group (get_or xs i x)) = ap (λ w. combined_options R w (summary_of_group x)) before ∙ ap (λ s. combined_options R (combined_all R (take i xs)) (summary_of_group s)) is in
      here ∙ sym step

module _ {G : Type 0} {R : G → G → Ordering} (o : IsTotalOrder R) where
  -- a number is carried past a greatest group alike for equal groups
  past_alike : (v g : G) → R v g ≡ Equal → (n : ℕ) (greatest : Option (G × ℕ)) → carried_past R v n greatest ≡ carried_past R g n greatest
  past_alike v g e n None = refl
  past_alike v g e n (Some r) = ap (λ b. cond b (n + r.1) 0) (ap is_eq (alike_right o v g r.0 e))

  pub over_alike : (v g : G) → R v g ≡ Equal → (n : ℕ) (xs : List (GroupCount G)) → carried_over R v n xs ≡ carried_over R g n xs
  over_alike v g e n [] = refl
  over_alike v g e n (x ∷ xs) = ap (λ m. carried_over R v m xs) (past_alike v g e n (greatest_of x)) ∙ over_alike v g e (carried_past R g n (greatest_of x)) xs

pub unequal : (r : Ordering) → (r ≡ Equal → ⊥) → is_eq r ≡ false
unequal Less other = refl
unequal Equal other = absurd (other refl)
unequal Greater other = refl

module _ {G : Type 0} (R : G → G → Ordering) (v : G) where
  -- a number carried over the summaries from an index on is the number before them plus their
  -- count, or the greatest `usize` if that is less
  abbrev pub Counts : List (GroupCount G) → ℕ → ℕ → Type 0
  Counts xs i count = (n : ℕ) → min (carried_over R v n (drop i xs)) (2 ^ 64 - 1) ≡ min (n + count) (2 ^ 64 - 1)

  pub none_over : (xs : List (GroupCount G)) → Counts xs (length xs) 0
  none_over xs n = rw (drop-length xs) (omega arith)

  cut : (xs : List (GroupCount G)) (i : ℕ) (x : GroupCount G) → 0 < i → i ≤ length xs → x ≡ get_or xs (i - 1) x → drop (i - 1) xs ≡ x ∷ drop i xs
  cut xs zero x positive within is = absurd (omega arith)
  cut xs (suc j) x positive within is =
      let e : suc j - 1 ≡ j = omega arith in
      let read : x ≡ get_or xs j x = rw e at is in
      rw (e, drop-cons xs j x (omega arith)) (ap (λ y. y ∷ drop (suc j) xs) (sym read))

  module _ (xs : List (GroupCount G)) (i count : ℕ) (counts : Counts xs i count) (positive : 0 < i) (within : i ≤ length xs) (x : GroupCount G) (read : x ≡ get_or xs (i - 1) x) where
    past : (n : ℕ) → carried_over R v n (drop (i - 1) xs) ≡ carried_over R v (carried_past R v n (greatest_of x)) (drop i xs)
    past n = rw (cut xs i x positive within read) refl

    pub skipped_over : None ≡ greatest_of x → Counts xs (i - 1) count
    skipped_over e n =
        let same : carried_past R v n (greatest_of x) ≡ n = rw (← e) refl in
        omega (arith, past n, ap (λ m. carried_over R v m (drop i xs)) same, counts n)

    module _ (h : G) (m : ℕ) (is : Some (h, m) ≡ greatest_of x) where
      pub same_over : Equal ≡ R h v → Counts xs (i - 1) (min (count + m) (2 ^ 64 - 1))
      same_over e n =
          let more : carried_past R v n (greatest_of x) ≡ n + m = rw (← is) (ap (λ r. cond (is_eq r) (n + m) 0) (sym e)) in
          omega (arith, past n, ap (λ k. carried_over R v k (drop i xs)) more, counts (n + m))

      -- no number is carried past a summary whose greatest group is another
      pub stopped_over : (R h v ≡ Equal → ⊥) → (n : ℕ) → count < 2 ^ 64 → count ≡ min (carried_over R v n xs) (2 ^ 64 - 1)
      stopped_over other n small =
          let front = carried_over R v n (take (i - 1) xs) in
          let parts : carried_over R v n (take (i - 1) xs ++ drop (i - 1) xs) ≡ carried_over R v front (drop (i - 1) xs) = fold-append (λ n summary. carried_past R v n (greatest_of summary)) n (take (i - 1) xs) (drop (i - 1) xs) in
          let whole : carried_over R v n xs ≡ carried_over R v front (drop (i - 1) xs) = rw take-append-drop at parts in
          let none : carried_past R v front (greatest_of x) ≡ 0 = rw (← is) (ap (λ b. cond b (front + m) 0) (unequal (R h v) other)) in
          omega (arith, whole, past front, ap (λ k. carried_over R v k (drop i xs)) none, counts 0)

  -- if no summary is left, the number carried over all is their count plus the number before them
  pub all_over : (xs : List (GroupCount G)) (i count n : ℕ) → Counts xs i count → i ≤ 0 → min (carried_over R v n xs) (2 ^ 64 - 1) ≡ min (count + n) (2 ^ 64 - 1)
  all_over xs i count n counts l =
      let first : i ≡ 0 = omega arith in
      let whole = rw first at (counts n) in
      omega (arith, whole)

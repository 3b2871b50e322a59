-- The results of summaries of one group.
use Rattle.std.proofs.Common.{◌≡◌, ℕ, ◌+◌, ◌-◌, ◌^◌, min, [], ◌∷◌, Some, None, sym, ap, ◌∙◌}
use Rattle.std.specs.declared.cmp.Ordering.{Ordering}
use Rattle.std.specs.declared.cmp.Ordering.TheVariants.{Equal}
use Rattle.bptree_arguments.specs.declared.group.GroupCount.{GroupCount}
use Rattle.bptree_arguments.specs.declared.group.GroupCount.TheVariants.{Zero, One, Multiple}
use Rattle.bptree_arguments.specs.GroupResults.{carried}
use Rattle.bptree_arguments.specs.GroupSums.{carried_over, greatest_of, summary_of, combined_all}
use Rattle.bptree_arguments.specs.Groups.{AreAlike}

module _ {G : Type 0} (R : G → G → Ordering) where
  -- Two summaries of one group add up to the sum of their sizes.
  pub reported_of_one : (g h : G) (n m : ℕ) → R g h ≡ Equal → (a : GroupCount G) → AreAlike R (summary_of (combined_all R (One g n ∷ One h m ∷ []))) a → greatest_of a ≡ None → ⊥
  reported_of_one g h n m e Zero alike is = rw e at alike
  reported_of_one g h n m e (One k j) alike is = cc
  reported_of_one g h n m e (Multiple l k j) alike is = cc

  pub sum_of_one : (g h : G) (n m : ℕ) → R g h ≡ Equal → (a : GroupCount G) → AreAlike R (summary_of (combined_all R (One g n ∷ One h m ∷ []))) a → (r : G × ℕ) → Some r ≡ greatest_of a → r.1 ≡ min (n + m) (2 ^ 64 - 1)
  sum_of_one g h n m e Zero alike r is = cc
  sum_of_one g h n m e (One k j) alike r is =
      let f : (R g k ≡ Equal) × (min (n + m) (2 ^ 64 - 1) ≡ j) = rw e at alike in
      let same : r ≡ (k, j) = cc in
      ap (λ p. p.1) same ∙ sym f.1
  sum_of_one g h n m e (Multiple l k j) alike r is = absurd (rw e at alike)

  -- A rank adds the size of a child that has the rank's group alone.
  pub carried_past_one : (v g h : G) (c m : ℕ) → R g v ≡ Equal → R h v ≡ Equal → carried_over R v (carried R v (Some (g, c))) (One h m ∷ []) ≡ c + m
  carried_past_one v g h c m e f = rw (e, f)

-- The size of a list's only group.
use Rattle.std.proofs.Common.{◌≡◌, ℕ, suc, List, [], ◌∷◌, length, map, false, cond, refl, sym, ap, ◌∙◌}
use Rattle.std.specs.declared.cmp.Ordering.{Ordering}
use Rattle.std.specs.declared.cmp.Ordering.TheVariants.{Less, Equal, Greater}
use Rattle.std.specs.Ordering.{is_eq, is_gt, ordering_reverse}
use Rattle.std.specs.Cmp.{IsTotalOrder}
use Rattle.std.specs.List.{AllByRecursion, filter}
use Rattle.std.proofs.lemmas.Bool.{true≢false}
use Rattle.std.proofs.lemmas.List.{length-map}
use Rattle.bptree_arguments.specs.Groups.{group_size, AreExtremes}

neither_above : (r s : Ordering) → s ≡ ordering_reverse r → is_gt r ≡ false → is_gt s ≡ false → r ≡ Equal
neither_above Less s e first second = absurd (true≢false (sym (ap is_gt e) ∙ second))
neither_above Equal s e first second = refl
neither_above Greater s e first second = absurd (true≢false first)

module _ {G : Type 0} {R : G → G → Ordering} (o : IsTotalOrder R) where
  -- if no group is below g and no group is above it, each is equal to g
  all_of_size : (g : G) (xs : List G) → AllByRecursion (λ x. is_gt (R g x) ≡ false) xs → AllByRecursion (λ x. is_gt (R x g) ≡ false) xs → group_size R g xs ≡ length xs
  all_of_size g [] low high = refl
  all_of_size g (x ∷ xs) low high =
      ap (λ r. length (cond (is_eq r) (x ∷ filter (λ y. is_eq (R y g)) xs) (filter (λ y. is_eq (R y g)) xs))) (neither_above (R x g) (R g x) (o.antisymm g x) high.0 low.0)
      ∙ ap suc (all_of_size g xs low.1 high.1)

  pub only_size : {K : Type 0} (group_of : K → G) (g : G) (n : ℕ) (keys : List K) → AreExtremes R (map group_of keys) (g, n) (g, n) 1 → n ≡ length keys
  only_size group_of g n keys a = a.least_size ∙ (all_of_size g (map group_of keys) a.least_bound a.greatest_bound ∙ length-map keys group_of)

-- The child that may contain a key, from the number of separators that are not greater than the key.
use Rattle.std.proofs.Common.{◌≡◌, ℕ, ◌+◌, suc, List, [], ◌∷◌, refl, ap, ◌∙◌, arith, Ordering, cond}
use Rattle.std.specs.List.{AllByRecursion, count_by}
use Rattle.std.specs.List.Sorted.{IsStrictlySortedBy}
use Rattle.std.specs.Cmp.{IsTotalOrder}
use Rattle.std.specs.Ordering.{ordering_reverse, is_le}
use Rattle.std.specs.declared.cmp.Ordering.TheVariants.{Less, Equal, Greater}
use Rattle.std.proofs.lemmas.List.Sums.{sum_by-cons}
use Rattle.std.proofs.lemmas.Map.Keys.{sorted_head, sorted_tail}
use Rattle.bptree_nodes.specs.Inner.{IsChildFor}

module _ {K : Type 0} (cmp : K → K → Ordering) (o : IsTotalOrder cmp) (k : K) where
  -- the number of keys that are not greater than k, with one more key in front
  counted : (x : K) (xs : List K) → count_by (λ y. is_le (cmp y k)) (x ∷ xs) ≡ cond (is_le (cmp x k)) 1 0 + count_by (λ y. is_le (cmp y k)) xs
  counted x xs = sum_by-cons (λ z. cond (is_le (cmp z k)) 1 0) x xs

  above : (x : K) → cmp x k ≡ Greater → cmp k x ≡ Less
  above x e = o.antisymm k x ∙ ap ordering_reverse e

  -- the keys after a key that is greater than k are greater than k
  all_above : (x : K) (xs : List K) → cmp x k ≡ Greater → AllByRecursion (λ y. cmp x y ≡ Less) xs → AllByRecursion (λ s. cmp k s ≡ Less) xs
  all_above x [] e h = tt
  all_above x (y ∷ xs) e h = (o.trans k x y (above x e) h.0, all_above x xs e h.1)

  none_counted : (xs : List K) → AllByRecursion (λ s. cmp k s ≡ Less) xs → count_by (λ y. is_le (cmp y k)) xs ≡ 0
  none_counted [] h = refl
  none_counted (y ∷ xs) h = let e : cmp y k ≡ Greater = o.antisymm y k ∙ ap ordering_reverse h.0 in counted y xs ∙ rw e (omega (arith, none_counted xs h.1))

  abbrev number : List K → ℕ
  number xs = count_by (λ y. is_le (cmp y k)) xs

  -- the child with one more separator in front, by cases of its comparison with k
  one_more : (x : K) (xs : List K) → AllByRecursion (λ y. cmp x y ≡ Less) xs → IsChildFor cmp k xs (number xs) → (r : Ordering) → cmp x k ≡ r → IsChildFor cmp k (x ∷ xs) (cond (is_le r) 1 0 + number xs)
  one_more x xs h rest Less e =
      let next : 1 + number xs ≡ suc (number xs) = omega arith in
      rw next record { within = omega (arith, rest.within); before = (rw e refl, rest.before); after = rest.after }
  one_more x xs h rest Equal e =
      let next : 1 + number xs ≡ suc (number xs) = omega arith in
      rw next record { within = omega (arith, rest.within); before = (rw e refl, rest.before); after = rest.after }
  one_more x xs h rest Greater e =
      let others = all_above x xs e h in
      let none : 0 + number xs ≡ 0 = omega (arith, none_counted xs others) in
      rw none record { within = omega arith; before = tt; after = (above x e, others) }

  child_for : (keys : List K) → IsStrictlySortedBy cmp keys → IsChildFor cmp k keys (number keys)
  child_for [] s = record { within = omega arith; before = tt; after = tt }
  child_for (x ∷ xs) s = rw (counted x xs) (one_more x xs (sorted_head cmp x xs s) (child_for xs (sorted_tail cmp x xs s)) (cmp x k) refl)

  pub child_for_counted : (keys : List K) (index : ℕ) → IsStrictlySortedBy cmp keys → index ≡ count_by (λ y. is_le (cmp y k)) keys → IsChildFor cmp k keys index
  child_for_counted keys index s e = rw e (child_for keys s)

-- The results of a search of ascending keys.
use Rattle.std.proofs.Common.{◌≡◌, ℕ, ◌+◌, ◌<◌, ◌≤◌, zero, suc, List, [], ◌∷◌, length, get_or, refl, sym, ap, subst, ◌∙◌, inl, inr, arith, Ordering, Result, Ok, Err, cond, false}
use Rattle.std.proofs.lemmas.Bool.{cases_lt}
use Rattle.std.proofs.lemmas.List.Sums.{sum_by-cons}
use Rattle.std.specs.Result.{MatchResult}
use Rattle.std.specs.List.{AllWithin, AllByRecursion, HoldsAt, count_by}
use Rattle.std.specs.List.Sorted.{IsNonDecreasingBy, IsStrictlySortedBy, IsBinarySearchResult, IsSearchInRange}
use Rattle.std.specs.Cmp.{IsTotalOrder}
use Rattle.std.specs.Ordering.{ordering_index, ordering_reverse, is_le}
use Rattle.std.specs.declared.cmp.Ordering.TheVariants.{Less, Equal, Greater}
use Rattle.std.proofs.lemmas.Cmp.{alike_right}
use Rattle.std.proofs.lemmas.Map.Keys.{Less-from_sorted, sorted_head, sorted_tail}
use Rattle.bptree_keys.specs.Locate.{one_later, locate_by, locate, child_index}

index_le_two : (o : Ordering) → ordering_index o ≤ 2
index_le_two Less = omega arith
index_le_two Equal = omega arith
index_le_two Greater = omega arith

module _ {K : Type 0} (c : K → K → Ordering) (o : IsTotalOrder c) where
  -- if x is less than y, the comparison of x with k is at most the comparison of y with k
  below_rises : (x y k : K) → c x y ≡ Less → ordering_index (c x k) ≤ ordering_index (c y k)
  below_rises x y k h = by_result (c y k) refl
    where
      by_result : (r : Ordering) → c y k ≡ r → ordering_index (c x k) ≤ ordering_index r
      by_result Less e = let t : c x k ≡ Less = o.trans x y k h e in rw t (omega arith)
      by_result Equal e = let t : c x y ≡ c x k = alike_right o y k x e in let u : c x k ≡ Less = sym t ∙ h in rw u (omega arith)
      by_result Greater e = index_le_two (c x k)

  pub results_rise : (ks : List K) (k : K) → IsStrictlySortedBy c ks → IsNonDecreasingBy (λ y. ordering_index (c y k)) ks
  results_rise ks k s i j d a b = elim (cases_lt i j) [
    | inl l ↦ below_rises (get_or ks i d) (get_or ks j d) k (Less-from_sorted c ks i j d s l b)
    | inr l ↦ let e : i ≡ j = omega arith in subst (λ n. ordering_index (c (get_or ks i d) k) ≤ ordering_index (c (get_or ks n d) k)) e (omega arith)
  ]

-- the result of a search: the index of an equal key, or the index between the smaller and the greater keys
abbrev pub Located : {K : Type 0} → (K → K → Ordering) → List K → K → Result ℕ ℕ → Type 0
Located c ks k r = MatchResult r (λ i. (i < length ks) × HoldsAt (λ y. c y k ≡ Equal) ks i) (λ i. (i ≤ length ks) × AllWithin (λ y. c y k ≡ Less) ks 0 i × AllWithin (λ y. c y k ≡ Greater) ks i (length ks))

module _ {K : Type 0} (c : K → K → Ordering) (o : IsTotalOrder c) where
  pub located : (ks : List K) (k : K) (r : Result ℕ ℕ) → IsStrictlySortedBy c ks → IsSearchInRange r (length ks) → IsBinarySearchResult (λ y. c y k) ks r → Located c ks k r
  located ks k (Ok i) s h f = (h, f)
  located ks k (Err i) s h f = let t = f (results_rise c o ks k s) in (h, t.0, t.1)

  pub locate_is : (ks : List K) (k : K) (r : Result ℕ ℕ) → IsStrictlySortedBy c ks → Located c ks k r → r ≡ locate c ks k
  locate_is [] k (Ok i) s f = absurd (omega (arith, f.0))
  locate_is [] k (Err i) s f = let e : i ≡ 0 = omega (arith, f.0) in ap Err e
  locate_is (x ∷ xs) k (Ok zero) s f = let e : c x k ≡ Equal = f.1 x in rw e refl
  locate_is (x ∷ xs) k (Ok (suc i)) s f =
      let within : i < length xs = omega (arith, f.0) in
      let there : c (get_or xs i x) k ≡ Equal = f.1 x in
      let below : c x (get_or xs i x) ≡ Less = Less-from_sorted c (x ∷ xs) 0 (suc i) x s (omega arith) (omega arith) in
      let e : c x k ≡ Less = sym (alike_right o (get_or xs i x) k x there) ∙ below in
      rw e (ap one_later (locate_is xs k (Ok i) (sorted_tail c x xs s) (within, λ d. f.1 d)))
  locate_is (x ∷ xs) k (Err zero) s f = let e : c x k ≡ Greater = f.2 0 x (omega arith) (omega arith) in rw e refl
  locate_is (x ∷ xs) k (Err (suc i)) s f =
      let e : c x k ≡ Less = f.1 0 x (omega arith) (omega arith) in
      let within : i ≤ length xs = omega (arith, f.0) in
      rw e (ap one_later (locate_is xs k (Err i) (sorted_tail c x xs s) (within, (λ j d a b. f.1 (suc j) d (omega arith) (omega arith)), (λ j d a b. f.2 (suc j) d (omega arith) (omega arith)))))

  pub locate_from_search : (ks : List K) (k : K) (r : Result ℕ ℕ) → IsSearchInRange r (length ks) → IsBinarySearchResult (λ y. c y k) ks r → IsStrictlySortedBy c ks → r ≡ locate c ks k
  locate_from_search ks k r h f s = locate_is ks k r s (located ks k r s h f)

-- ---- the number of keys that are not greater

module _ {K : Type 0} (c : K → K → Ordering) (o : IsTotalOrder c) where
  above_key : (x y k : K) → c x y ≡ Less → c x k ≡ Greater → is_le (c y k) ≡ false
  above_key x y k h e =
      let back : c k x ≡ Less = o.antisymm k x ∙ ap ordering_reverse e in
      let far : c k y ≡ Less = o.trans k x y back h in
      let up : c y k ≡ Greater = o.antisymm y k ∙ ap ordering_reverse far in
      rw up refl

  above_equal : (x y k : K) → c x y ≡ Less → c x k ≡ Equal → is_le (c y k) ≡ false
  above_equal x y k h e =
      let same : c y x ≡ c y k = alike_right o x k y e in
      let up : c y x ≡ Greater = o.antisymm y x ∙ ap ordering_reverse h in
      rw (← same, up) refl

  none_counted : (x k : K) (ys : List K) → ((y : K) → c x y ≡ Less → is_le (c y k) ≡ false) → AllByRecursion (λ y. c x y ≡ Less) ys → count_by (λ y. is_le (c y k)) ys ≡ 0
  none_counted x k [] f h = refl
  none_counted x k (y ∷ ys) f h = let e = f y h.0 in sum_by-cons (λ z. cond (is_le (c z k)) 1 0) y ys ∙ rw e (omega (arith, none_counted x k ys f h.1))

  pub child_index-locate : (ks : List K) (k : K) → IsStrictlySortedBy c ks → child_index (locate c ks k) ≡ count_by (λ y. is_le (c y k)) ks
  child_index-locate [] k s = refl
  child_index-locate (x ∷ xs) k s = by_result (child_index-locate xs k (sorted_tail c x xs s)) (c x k) refl ∙ sym (sum_by-cons (λ z. cond (is_le (c z k)) 1 0) x xs)
    where
      later : (r : Result ℕ ℕ) → child_index (one_later r) ≡ suc (child_index r)
      later (Ok i) = refl
      later (Err i) = refl

      by_result : child_index (locate c xs k) ≡ count_by (λ y. is_le (c y k)) xs → (r : Ordering) → c x k ≡ r → child_index (locate_by (c x k) (locate c xs k)) ≡ cond (is_le (c x k)) 1 0 + count_by (λ y. is_le (c y k)) xs
      by_result ih Less e = rw e (later (locate c xs k) ∙ omega (arith, ih))
      by_result ih Equal e = rw e (omega (arith, none_counted x k xs (λ y h. above_equal x y k h e) (sorted_head c x xs s)))
      by_result ih Greater e = rw e (omega (arith, none_counted x k xs (λ y h. above_key x y k h e) (sorted_head c x xs s)))

  pub count_upto_from_locate : (ks : List K) (k : K) (r : Result ℕ ℕ) → IsStrictlySortedBy c ks → r ≡ locate c ks k → child_index r ≡ count_by (λ y. is_le (c y k)) ks
  count_upto_from_locate ks k r s e = ap child_index e ∙ child_index-locate ks k s

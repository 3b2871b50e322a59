-- Pairs after a stable sort by their keys: `gather` of the sorted pairs is `gather` of the pairs before the sort.
use native.Mathlib.Numerals.{unary_clauses}
use Rattle.std.proofs.Common.{◌≡◌, ◌≢◌, ◌<◌, ◌≤◌, ◌+◌, ℕ, zero, suc, Bool, true, false, not, List, [], ◌∷◌, ◌++◌, length, filter, Option, Some, None, refl, sym, ap, subst, cond, ◌∙◌, ◌&&◌, true≢false, slice_index_or, arith}
use Rattle.std.specs.declared.cmp.Ordering.{Ordering}
use Rattle.std.specs.declared.cmp.Ordering.TheVariants.{Less, Equal, Greater}
use Rattle.std.specs.Ordering.{is_lt, is_eq, is_gt, ordering_reverse}
use Rattle.std.specs.Cmp.{IsTotalOrder, tied_itself}
use Rattle.std.specs.List.{find}
use Rattle.std.specs.List.Sorted.{IsSortedBy, IsStableBy, ties}
use Rattle.std.specs.Map.{keys_of}
use Rattle.std.specs.Option.{option_or}
use Rattle.std.proofs.lemmas.Cmp.{alike_right}
use Rattle.std.proofs.lemmas.List.Elements.{filter_agree}
use Rattle.std.proofs.lemmas.List.Folds.{find-append}
use Rattle.std.proofs.lemmas.Map.Keys.{sorted_head, sorted_tail}
use Rattle.bptree_keys.specs.Contents.{IsAscending, pairs_below, pairs_above, gather, has, put}
use Rattle.bptree_keys.specs.Indexes.{AllCompare}
use Rattle.bptree_keys.proofs.Ascending.{greater_turned, less_turned, all_pairs, gap_if_absent}
use Rattle.bptree_keys.proofs.Laws.{gather_ascending}
use Rattle.bptree_keys.proofs.Parted.{put_gap}
use Rattle.bptree_load_plan.specs.Loading.{IsInLoadOrder}
use Rattle.bptree_load_plan.proofs.OrderLemmas.{or_none, has_alike}

module _ {K V : Type 0} (cmp : K → K → Ordering) where
  -- the order of pairs by their keys
  abbrev pub by_keys : K × V → K × V → Bool
  by_keys x y = is_lt (cmp x.0 y.0)

  -- the first pair whose key equals k, and the last one
  abbrev first_at : List (K × V) → K → Option (K × V)
  first_at l k = find (λ pair. is_eq (cmp pair.0 k)) l

  abbrev last_at : List (K × V) → K → Option (K × V)
  last_at [] k = None
  last_at (p ∷ l) k = option_or (last_at l k) (cond (is_eq (cmp p.0 k)) (Some p) None)

  -- the last pair whose key equals k is the last of the pairs with equal keys
  last_of_equal_step : (p : K × V) (l : List (K × V)) (k : K) → last_at l k ≡ last_at (filter (λ pair. is_eq (cmp pair.0 k)) l) k → (b : Bool) → is_eq (cmp p.0 k) ≡ b → last_at (p ∷ l) k ≡ last_at (filter (λ pair. is_eq (cmp pair.0 k)) (p ∷ l)) k
  last_of_equal_step p l k rest true is = rw (is, is, rest) refl
  last_of_equal_step p l k rest false is = rw (is, or_none (last_at l k)) rest

  last_of_equal : (l : List (K × V)) (k : K) → last_at l k ≡ last_at (filter (λ pair. is_eq (cmp pair.0 k)) l) k
  last_of_equal [] k = refl
  last_of_equal (p ∷ l) k = last_of_equal_step p l k (last_of_equal l k) (is_eq (cmp p.0 k)) refl

  -- a search for the first pair skips pairs whose keys do not equal k
  first_past : (k : K) (o : Ordering) (before l : List (K × V)) → is_eq o ≡ false → AllCompare cmp k o before → first_at (before ++ l) k ≡ first_at l k
  first_past k o [] l fails all = refl
  first_past k o (p ∷ before) l fails all = rw (all.0, fails) (first_past k o before l fails all.1)

  -- if no key equals k, there is no last pair
  none_step : (p : K × V) (l : List (K × V)) (k : K) → (has cmp l k ≡ false → last_at l k ≡ None) → (b : Bool) → is_eq (cmp p.0 k) ≡ b → has cmp (p ∷ l) k ≡ false → last_at (p ∷ l) k ≡ None
  none_step p l k later true is absent = absurd (true≢false (rw is at absent))
  none_step p l k later false is absent = rw (is, later (rw is at absent)) refl

  no_last : (l : List (K × V)) (k : K) → has cmp l k ≡ false → last_at l k ≡ None
  no_last [] k absent = refl
  no_last (p ∷ l) k absent = none_step p l k (no_last l k) (is_eq (cmp p.0 k)) refl absent

  -- if a key equals k, there is a last pair
  or_some : (found : Option (K × V)) (p : K × V) (other : Option (K × V)) → option_or (option_or found (Some p)) other ≡ option_or found (Some p)
  or_some None p other = refl
  or_some (Some q) p other = refl

  some_step : (p : K × V) (l : List (K × V)) (k : K) (other : Option (K × V)) → (has cmp l k ≡ true → option_or (last_at l k) other ≡ last_at l k) → (b : Bool) → is_eq (cmp p.0 k) ≡ b → has cmp (p ∷ l) k ≡ true → option_or (last_at (p ∷ l) k) other ≡ last_at (p ∷ l) k
  some_step p l k other later true is there = rw is (or_some (last_at l k) p other)
  some_step p l k other later false is there = rw (is, or_none (last_at l k)) (later (rw is at there))

  some_last : (l : List (K × V)) (k : K) (other : Option (K × V)) → has cmp l k ≡ true → option_or (last_at l k) other ≡ last_at l k
  some_last [] k other there = absurd (true≢false (sym there))
  some_last (p ∷ l) k other there = some_step p l k other (some_last l k other) (is_eq (cmp p.0 k)) refl there

module _ {K V : Type 0} (cmp : K → K → Ordering) (total : IsTotalOrder cmp) where
  -- if all keys compare as o with j, they compare as o with a key equal to j
  result_alike : (j k : K) (o : Ordering) → cmp j k ≡ Equal → (l : List (K × V)) → AllCompare cmp j o l → AllCompare cmp k o l
  result_alike j k o alike [] all = tt
  result_alike j k o alike (p ∷ l) all = (sym (alike_right total j k p.0 alike) ∙ all.0, result_alike j k o alike l all.1)

  -- a pair between smaller and greater keys is found at its own key, and does not change what is found at other keys
  first_between : (before after : List (K × V)) (p : K × V) (k : K) → AllCompare cmp p.0 Less before → (o : Ordering) → cmp p.0 k ≡ o → first_at cmp (before ++ p ∷ after) k ≡ cond (is_eq o) (Some p) (first_at cmp (before ++ after) k)
  first_between before after p k smaller Less is = find-append _ before (p ∷ after) ∙ rw is (sym (find-append _ before after))
  first_between before after p k smaller Equal is = first_past cmp k Less before (p ∷ after) refl (result_alike p.0 k Less is before smaller) ∙ rw is refl
  first_between before after p k smaller Greater is = find-append _ before (p ∷ after) ∙ rw is (sym (find-append _ before after))

  first_put : (l : List (K × V)) → IsAscending cmp l → (p : K × V) (k : K) → has cmp l p.0 ≡ false → first_at cmp (put cmp l p.0 p.1) k ≡ cond (is_eq (cmp p.0 k)) (Some p) (first_at cmp l k)
  first_put l ascending p k absent =
      let gap = gap_if_absent cmp total l p.0 ascending absent in
      let before = pairs_below cmp l p.0 in
      let after = pairs_above cmp l p.0 in
      ap (λ m. first_at cmp m k) (put_gap cmp l before after p.0 gap p.1)
      ∙ first_between before after p k gap.smaller (cmp p.0 k) refl
      ∙ ap (λ m. cond (is_eq (cmp p.0 k)) (Some p) (first_at cmp m k)) (sym gap.parts)

  -- if no pair is found, no key equals k
  absent_step : (p : K × V) (l : List (K × V)) (k : K) → (first_at cmp l k ≡ None → has cmp l k ≡ false) → (b : Bool) → is_eq (cmp p.0 k) ≡ b → first_at cmp (p ∷ l) k ≡ None → has cmp (p ∷ l) k ≡ false
  absent_step p l k later true is nothing =
      let found : Some p ≡ None = rw is at nothing in
      absurd cc
  absent_step p l k later false is nothing = rw is (later (rw is at nothing))

  absent_if_none : (l : List (K × V)) (k : K) → first_at cmp l k ≡ None → has cmp l k ≡ false
  absent_if_none [] k nothing = refl
  absent_if_none (p ∷ l) k nothing = absent_step p l k (absent_if_none l k) (is_eq (cmp p.0 k)) refl nothing

  -- `gather` adds no key
  gathered_lacks : (l : List (K × V)) (j : K) → first_at cmp (gather cmp l) j ≡ last_at cmp l j → has cmp l j ≡ false → has cmp (gather cmp l) j ≡ false
  gathered_lacks l j same absent = absent_if_none (gather cmp l) j (same ∙ no_last cmp l j absent)

  -- the pair at k when one more pair is gathered, by cases of whether its key comes again and of its order with k
  gathered_step : (p : K × V) (l : List (K × V)) (k : K) → ((j : K) → first_at cmp (gather cmp l) j ≡ last_at cmp l j) → (b : Bool) → has cmp l p.0 ≡ b → (o : Ordering) → cmp p.0 k ≡ o → first_at cmp (gather cmp (p ∷ l)) k ≡ last_at cmp (p ∷ l) k
  gathered_step p l k rest true there Less is = rw (there, is, or_none (last_at cmp l k)) (rest k)
  gathered_step p l k rest true there Equal is = rw (there, is, some_last cmp l k (Some p) (sym (has_alike cmp total p.0 k is l) ∙ there)) (rest k)
  gathered_step p l k rest true there Greater is = rw (there, is, or_none (last_at cmp l k)) (rest k)
  gathered_step p l k rest false absent Less is = rw (absent, first_put (gather cmp l) (gather_ascending cmp total l) p k (gathered_lacks l p.0 (rest p.0) absent), is, or_none (last_at cmp l k)) (rest k)
  gathered_step p l k rest false absent Equal is = rw (absent, first_put (gather cmp l) (gather_ascending cmp total l) p k (gathered_lacks l p.0 (rest p.0) absent), is, no_last cmp l k (sym (has_alike cmp total p.0 k is l) ∙ absent)) refl
  gathered_step p l k rest false absent Greater is = rw (absent, first_put (gather cmp l) (gather_ascending cmp total l) p k (gathered_lacks l p.0 (rest p.0) absent), is, or_none (last_at cmp l k)) (rest k)

  -- `gather` has, at each key, the last pair of that key
  gathered_at : (l : List (K × V)) (k : K) → first_at cmp (gather cmp l) k ≡ last_at cmp l k
  gathered_at [] k = refl
  gathered_at (p ∷ l) k = gathered_step p l k (gathered_at l) (has cmp l p.0) refl (cmp p.0 k) refl

  -- no pair is found among greater keys
  none_greater : (m : List (K × V)) (k : K) → AllCompare cmp k Greater m → first_at cmp m k ≡ None
  none_greater [] k all = refl
  none_greater (p ∷ m) k all = rw all.0 (none_greater m k all.1)

  -- a key that is less than the first of ascending pairs is not found
  none_below : (q : K × V) (m : List (K × V)) (k : K) → IsAscending cmp (q ∷ m) → cmp k q.0 ≡ Less → first_at cmp (q ∷ m) k ≡ None
  none_below q m k ascending less = none_greater (q ∷ m) k (
    greater_turned cmp total k q.0 less,
    all_pairs (λ key. cmp q.0 key ≡ Less) (λ key. cmp key k ≡ Greater) (λ key more. greater_turned cmp total k key (total.trans k q.0 key less more)) m (sorted_head cmp q.0 (keys_of m) ascending),
  )

  -- a key that equals the first of ascending pairs is not found after it
  none_after : (p : K × V) (l : List (K × V)) (k : K) → IsAscending cmp (p ∷ l) → cmp p.0 k ≡ Equal → first_at cmp l k ≡ None
  none_after p l k ascending is = none_greater l k (all_pairs (λ key. cmp p.0 key ≡ Less) (λ key. cmp key k ≡ Greater) (λ key less. greater_turned cmp total k key (sym (total.congr p.0 k key is) ∙ less)) l (sorted_head cmp p.0 (keys_of l) ascending))

  -- if two lists with the same first pair find the same pair, they find the same pair after the first pair
  found_after : (p : K × V) (l m : List (K × V)) (k : K) → IsAscending cmp (p ∷ l) → IsAscending cmp (p ∷ m) → first_at cmp (p ∷ l) k ≡ first_at cmp (p ∷ m) k → (o : Ordering) → cmp p.0 k ≡ o → first_at cmp l k ≡ first_at cmp m k
  found_after p l m k left right same Less is = rw is at same
  found_after p l m k left right same Equal is = none_after p l k left is ∙ sym (none_after p m k right is)
  found_after p l m k left right same Greater is = rw is at same

  -- the first pair is found at its own key
  first_itself : (p : K × V) (l : List (K × V)) → first_at cmp (p ∷ l) p.0 ≡ Some p
  first_itself p l = rw (tied_itself total p.0) refl

  -- if two ascending lists find the same pairs, their first pairs are the same
  same_first : (p : K × V) (l : List (K × V)) (q : K × V) (m : List (K × V)) → IsAscending cmp (p ∷ l) → IsAscending cmp (q ∷ m) → ((x : K × V) → first_at cmp (p ∷ l) x.0 ≡ first_at cmp (q ∷ m) x.0) → (o : Ordering) → cmp p.0 q.0 ≡ o → p ≡ q
  same_first p l q m left right same Less is =
      let none : Some p ≡ None = sym (first_itself p l) ∙ same p ∙ none_below q m p.0 right is in
      absurd cc
  same_first p l q m left right same Equal is =
      let turned : cmp q.0 p.0 ≡ Equal = total.antisymm q.0 p.0 ∙ ap ordering_reverse is in
      let there : first_at cmp (q ∷ m) p.0 ≡ Some q = rw turned refl in
      let both : Some p ≡ Some q = sym (first_itself p l) ∙ same p ∙ there in
      cc
  same_first p l q m left right same Greater is =
      let none : Some q ≡ None = sym (first_itself q m) ∙ sym (same q) ∙ none_below p l q.0 left (less_turned cmp total p.0 q.0 is) in
      absurd cc

  -- two ascending lists that find the same pairs are the same
  same_pairs : (l m : List (K × V)) → IsAscending cmp l → IsAscending cmp m → ((x : K × V) → first_at cmp l x.0 ≡ first_at cmp m x.0) → l ≡ m
  same_pairs [] [] left right same = refl
  same_pairs [] (q ∷ m) left right same =
      let none : None ≡ Some q = same q ∙ first_itself q m in
      absurd cc
  same_pairs (p ∷ l) [] left right same =
      let none : Some p ≡ None = sym (first_itself p l) ∙ same p in
      absurd cc
  same_pairs (p ∷ l) (q ∷ m) left right same =
      let one : p ≡ q = same_first p l q m left right same (cmp p.0 q.0) refl in
      let ascending : IsAscending cmp (p ∷ m) = subst (λ r. IsAscending cmp (r ∷ m)) (sym one) right in
      let alike : (x : K × V) → first_at cmp (p ∷ l) x.0 ≡ first_at cmp (p ∷ m) x.0 = λ x. same x ∙ ap (λ r. first_at cmp (r ∷ m) x.0) (sym one) in
      ap (λ r. r ∷ l) one ∙ ap (λ more. q ∷ more) (same_pairs l m (sorted_tail cmp p.0 (keys_of l) left) (sorted_tail cmp p.0 (keys_of m) ascending) (λ x. found_after p l m x.0 left ascending (alike x) (cmp p.0 x.0) refl))

  -- two pairs tie if and only if their keys are equal
  ties_by_result : (x y : K × V) (o : Ordering) → cmp y.0 x.0 ≡ o → ties (by_keys cmp) x y ≡ is_eq (cmp y.0 x.0)
  ties_by_result x y Less is = rw (is, greater_turned cmp total y.0 x.0 is) refl
  ties_by_result x y Equal is = rw (is, total.antisymm x.0 y.0 ∙ ap ordering_reverse is) refl
  ties_by_result x y Greater is = rw (is, less_turned cmp total y.0 x.0 is) refl

  -- a stable sort does not change the result of `gather`
  pub gather_stable : (xs ys : List (K × V)) → IsStableBy (by_keys cmp) xs ys → gather cmp ys ≡ gather cmp xs
  gather_stable xs ys stable = same_pairs (gather cmp ys) (gather cmp xs) (gather_ascending cmp total ys) (gather_ascending cmp total xs) (λ x.
      let agree : (y : K × V) → ties (by_keys cmp) x y ≡ is_eq (cmp y.0 x.0) = λ y. ties_by_result x y (cmp y.0 x.0) refl in
      let equal : filter (λ y. is_eq (cmp y.0 x.0)) ys ≡ filter (λ y. is_eq (cmp y.0 x.0)) xs = sym (filter_agree _ _ agree ys) ∙ stable x ∙ filter_agree _ _ agree xs in
      gathered_at ys x.0 ∙ last_of_equal cmp ys x.0 ∙ ap (λ l. last_at cmp l x.0) equal ∙ sym (last_of_equal cmp xs x.0) ∙ sym (gathered_at xs x.0))

  -- if the next key is not less than a key, the key is not greater than the next
  not_above : (p q : K × V) (o : Ordering) → cmp p.0 q.0 ≡ o → by_keys cmp q p ≡ false → cmp p.0 q.0 ≢ Greater
  not_above p q Less is not_below = λ greater. absurd cc
  not_above p q Equal is not_below = λ greater. absurd cc
  not_above p q Greater is not_below = absurd (true≢false (rw (less_turned cmp total p.0 q.0 is) at not_below))

  -- sorted pairs are in load order
  pub ordered_if_sorted : (l : List (K × V)) → IsSortedBy (by_keys cmp) l → IsInLoadOrder cmp l
  ordered_if_sorted [] sorted = tt
  ordered_if_sorted (p ∷ []) sorted = (tt, tt)
  ordered_if_sorted (p ∷ q ∷ l) sorted = (
    not_above p q (cmp p.0 q.0) refl (sorted 0 p (omega arith) (omega arith)),
    ordered_if_sorted (q ∷ l) (λ k d from within. behind k d (sorted (suc k) d (omega arith) (omega arith))),
  )
    where
      behind : (k : ℕ) (d : K × V) → by_keys cmp (slice_index_or (p ∷ q ∷ l) (suc k + 1) d) (slice_index_or (p ∷ q ∷ l) (suc k) d) ≡ false → by_keys cmp (slice_index_or (q ∷ l) (k + 1) d) (slice_index_or (q ∷ l) k d) ≡ false
      behind k d below =
          let there : by_keys cmp (slice_index_or (q ∷ l) (suc k) d) (slice_index_or (q ∷ l) k d) ≡ false = simp unary_clauses at below in
          simp unary_clauses there

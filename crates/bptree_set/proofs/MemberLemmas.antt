-- The keys of one set that another holds, and how many these are.
use Rattle.std.proofs.Common.{◌≡◌, ◌∙◌, ◌+◌, ◌≤◌, ◌&&◌, ◌||◌, arith, List, [], ◌∷◌, Bool, true, false, not, cond, filter, length, Option, Some, None, is_some, refl, sym, ap}
use mathlib.Core.Bool.{true≢false}
use Rattle.std.proofs.lemmas.Cmp.{alike_right, tied_itself}
use Rattle.std.proofs.lemmas.List.Filters.{length-filter_both}
use Rattle.std.proofs.lemmas.List.Kept.{IsStrictlySortedBy-filter}
use Rattle.std.proofs.lemmas.Map.Keys.{sorted_head, sorted_tail}
use Rattle.std.specs.declared.cmp.Ordering.{Ordering}
use Rattle.std.specs.declared.cmp.Ordering.TheVariants.{Less, Equal, Greater}
use Rattle.std.specs.Cmp.{IsTotalOrder}
use Rattle.std.specs.List.{AllByRecursion}
use Rattle.std.specs.List.Sorted.{IsStrictlySortedBy}
use Rattle.std.specs.Map.Iter.{TakesFirst}
use Rattle.std.specs.Ordering.{is_eq}
use Rattle.bptree_keys.proofs.Ascending.{greater_turned, less_turned}
use Rattle.bptree_map.specs.Keys.{holds, key_found, keys_within, keys_without, without_key, IsDisjoint, IsSubset}
use Rattle.bptree_map.proofs.ExtendingLemmas.{holds_equal}
use Rattle.bptree_map.proofs.KeyLemmas.{without_ascending, without_holds, without_length}

-- ascending keys without the first ascend
pub after_first : {K : Type 0} (cmp : K → K → Ordering) (keys rest : List K) (k : K) → keys ≡ k ∷ rest → IsStrictlySortedBy cmp keys → IsStrictlySortedBy cmp rest
after_first cmp keys rest k is ascending = sorted_tail cmp k rest (rw is at ascending)

-- a step yielded no item if and only if no member was left
pub none_given : {A X : Type 0} (shows : A → X) (s t : List X) (r : Option A) (b : Bool) → TakesFirst shows s r t → is_some r ≡ not b → (b ≡ true → s ≡ []) × (s ≡ [] → b ≡ true)
none_given shows s t None true step is = (λ _. step.0, λ _. refl)
none_given shows s t None false step is = absurd (true≢false (sym is))
none_given shows s t (Some x) true step is = absurd (true≢false is)
none_given shows s t (Some x) false step is = (λ e. absurd (true≢false (sym e)), λ none. absurd (some_not_none step none))
  where
    some_not_none : {X : Type 0} {x : X} {s t : List X} → s ≡ x ∷ t → s ≡ [] → ⊥
    some_not_none some none = cc

-- both operands of a conjunction are true; a disjunction is true if an operand is
and_left : (a b : Bool) → (a && b) ≡ true → a ≡ true
and_left true b is = refl
and_left false b is = is

or_right : (a b : Bool) → b ≡ true → (a || b) ≡ true
or_right true b is = refl
or_right false b is = is

true_if_not_false : (b : Bool) → not b ≡ false → b ≡ true
true_if_not_false true is = refl
true_if_not_false false is = absurd (true≢false is)

module _ {K : Type 0} (cmp : K → K → Ordering) (total : IsTotalOrder cmp) where
  -- a list holds its first key
  pub holds_first : (k : K) (keys : List K) → holds cmp (k ∷ keys) k ≡ true
  holds_first k keys = ap (λ o. is_eq o || holds cmp keys k) (tied_itself total k)

  -- a test whose result is the same for equal keys
  module _ (test : K → Bool) (alike : (j k : K) → cmp j k ≡ Equal → test j ≡ test k) where
    filter_at : (key : K) (keys : List K) (k : K) → holds cmp (filter test keys) k ≡ (holds cmp keys k && test k) → (o : Ordering) (b : Bool) → test key ≡ b → cmp key k ≡ o → (o ≡ Equal → b ≡ test k) → holds cmp (cond b (key ∷ filter test keys) (filter test keys)) k ≡ ((is_eq o || holds cmp keys k) && test k)
    filter_at key keys k later Equal true passes is same = ap (λ o. is_eq o || holds cmp (filter test keys) k) is ∙ same refl
    filter_at key keys k later Less true passes is same = ap (λ o. is_eq o || holds cmp (filter test keys) k) is ∙ later
    filter_at key keys k later Greater true passes is same = ap (λ o. is_eq o || holds cmp (filter test keys) k) is ∙ later
    filter_at key keys k later Equal false passes is same = later ∙ ap (λ b. holds cmp keys k && b) (sym (same refl)) ∙ and_false (holds cmp keys k) ∙ same refl
      where
        and_false : (a : Bool) → (a && false) ≡ false
        and_false true = refl
        and_false false = refl
    filter_at key keys k later Less false passes is same = later
    filter_at key keys k later Greater false passes is same = later

    -- a filtered list holds a key if the list holds it and it passes
    pub holds_filter : (keys : List K) (k : K) → holds cmp (filter test keys) k ≡ (holds cmp keys k && test k)
    holds_filter [] k = refl
    holds_filter (key ∷ keys) k = filter_at key keys k (holds_filter keys k) (cmp key k) (test key) refl refl (λ equal. alike key k equal)

    -- no key passes if and only if each key that equals one of the list fails
    pub none_pass : (keys : List K) → filter test keys ≡ [] → (k : K) → holds cmp keys k ≡ true → test k ≡ false
    none_pass keys none k there = ap (λ b. b && test k) (sym there) ∙ sym (holds_filter keys k) ∙ ap (λ l. holds cmp l k) none

    pub all_fail : (keys : List K) → ((k : K) → holds cmp keys k ≡ true → test k ≡ false) → filter test keys ≡ []
    all_fail [] fails = refl
    all_fail (key ∷ keys) fails = ap (λ b. cond b (key ∷ filter test keys) (filter test keys)) (fails key (holds_first key keys)) ∙ all_fail keys (λ k there. fails k (or_right (is_eq (cmp key k)) (holds cmp keys k) there))

  module _ (others : List K) where
    -- others hold both of two equal keys, or neither
    held_alike : (j k : K) → cmp j k ≡ Equal → holds cmp others j ≡ holds cmp others k
    held_alike = holds_equal total others

    lacked_alike : (j k : K) → cmp j k ≡ Equal → not (holds cmp others j) ≡ not (holds cmp others k)
    lacked_alike j k same = ap not (holds_equal total others j k same)

    pub holds_within : (keys : List K) (k : K) → holds cmp (keys_within cmp keys others) k ≡ (holds cmp keys k && holds cmp others k)
    holds_within = holds_filter (λ key. holds cmp others key) held_alike

    pub holds_without : (keys : List K) (k : K) → holds cmp (keys_without cmp keys others) k ≡ (holds cmp keys k && not (holds cmp others k))
    holds_without = holds_filter (λ key. not (holds cmp others key)) lacked_alike

    -- no key is missing if and only if each is held
    pub subset_where_none : (keys : List K) → keys_without cmp keys others ≡ [] → IsSubset cmp keys others
    subset_where_none keys none k there = true_if_not_false _ (none_pass (λ key. not (holds cmp others key)) lacked_alike keys none k there)

    pub none_where_subset : (keys : List K) → IsSubset cmp keys others → keys_without cmp keys others ≡ []
    none_where_subset keys subset = all_fail (λ key. not (holds cmp others key)) lacked_alike keys (λ k there. ap not (subset k there))

    -- no key is shared if and only if none of them is held
    pub disjoint_where_none : (keys : List K) → keys_within cmp keys others ≡ [] → IsDisjoint cmp keys others
    disjoint_where_none = none_pass (λ key. holds cmp others key) held_alike

    pub none_where_disjoint : (keys : List K) → IsDisjoint cmp keys others → keys_within cmp keys others ≡ []
    none_where_disjoint = all_fail (λ key. holds cmp others key) held_alike

  -- disjoint lists are disjoint in either order
  pub disjoint_turned : (keys others : List K) → IsDisjoint cmp keys others → IsDisjoint cmp others keys
  disjoint_turned keys others none k there = turned (holds cmp keys k) (holds cmp others k) (none k) there
    where
      turned : (a b : Bool) → (a ≡ true → b ≡ false) → b ≡ true → a ≡ false
      turned true b none there = absurd (true≢false (sym there ∙ none refl))
      turned false b none there = refl

  -- a key below others equals none of them
  pub apart : (k : K) (keys : List K) → AllByRecursion (λ key. cmp k key ≡ Less) keys → (j : K) → cmp k j ≡ Equal → holds cmp keys j ≡ false
  apart k [] below j same = refl
  apart k (key ∷ keys) below j same =
      let more : cmp key j ≡ Greater = sym (alike_right total k j key same) ∙ greater_turned cmp total k key below.0 in
      ap (λ o. is_eq o || holds cmp keys j) more ∙ apart k keys below.1 j same

  differs : (o : Ordering) (there : Bool) → (o ≡ Equal → there ≡ false) → there ≡ true → not (is_eq o) ≡ true
  differs Less there absent is = refl
  differs Greater there absent is = refl
  differs Equal there absent is = absurd (true≢false (sym is ∙ absent refl))

  both_true : (a b : Bool) → a ≡ true → b ≡ true → (a && b) ≡ true
  both_true true b first second = second
  both_true false b first second = first

  -- a list whose keys another holds is no longer than the other
  pub subset_fits : (keys others : List K) → IsStrictlySortedBy cmp keys → IsStrictlySortedBy cmp others → IsSubset cmp keys others → length keys ≤ length others
  subset_fits [] others first second subset = omega arith
  subset_fits (k ∷ keys) others first second subset =
      let there : holds cmp others k ≡ true = subset k (holds_first k keys) in
      let one : length (without_key cmp others k) + 1 ≡ length others = ap (λ b. length (without_key cmp others k) + cond b 1 0) (sym there) ∙ without_length cmp total others second k in
      let rest = subset_fits keys (without_key cmp others k) (sorted_tail cmp k keys first) (without_ascending cmp total others second k)
      (λ j held. without_holds cmp total others second k j ∙ both_true (not (is_eq (cmp k j))) (holds cmp others j) (differs (cmp k j) (holds cmp keys j) (apart k keys (sorted_head cmp k keys first) j) held) (subset j (or_right (is_eq (cmp k j)) (holds cmp keys j) held))) in
      omega (arith, one, rest)

  module _ (keys others : List K) (first : IsStrictlySortedBy cmp keys) (second : IsStrictlySortedBy cmp others) where
    -- the number of keys that are shared, and of those that are missing
    pub within_fits : length (keys_within cmp keys others) ≤ length others
    within_fits = subset_fits (keys_within cmp keys others) others (IsStrictlySortedBy-filter cmp (λ key. holds cmp others key) keys first) second
        (λ k there. and_right (holds cmp keys k) (holds cmp others k) (sym (holds_within others keys k) ∙ there))
      where
        and_right : (a b : Bool) → (a && b) ≡ true → b ≡ true
        and_right true b is = is
        and_right false b is = absurd (true≢false (sym is))

    pub both_parts : length (keys_within cmp keys others) + length (keys_without cmp keys others) ≡ length keys
    both_parts = length-filter_both (λ key. holds cmp others key) (λ key. not (holds cmp others key)) (λ key. refl) keys

    pub within_most : length (keys_within cmp keys others) ≤ length keys
    within_most = omega (arith, both_parts)

    pub without_most : length (keys_without cmp keys others) ≤ length keys
    without_most = omega (arith, both_parts)

    pub without_least : length keys ≤ length (keys_without cmp keys others) + length others
    without_least = omega (arith, both_parts, within_fits)

  -- no key above a greater key equals k
  pub none_above : (k y : K) (keys : List K) → cmp y k ≡ Greater → AllByRecursion (λ key. cmp y key ≡ Less) keys → key_found cmp keys k ≡ None
  none_above k y [] more above = refl
  none_above k y (key ∷ keys) more above =
      ap (λ o. cond (is_eq o) (Some key) (key_found cmp keys k)) (greater_turned cmp total k key (total.trans k y key (less_turned cmp total y k more) above.0)) ∙ none_above k y keys more above.1

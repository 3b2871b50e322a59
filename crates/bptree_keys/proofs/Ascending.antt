-- The parts of an ascending list at a key, and lists that stay ascending.
use Rattle.std.proofs.Common.{◌≡◌, false, List, [], ◌∷◌, ◌++◌, refl, sym, ap, ◌∙◌}
use mathlib.Core.Bool.{true≢false}
use Rattle.std.specs.declared.cmp.Ordering.{Ordering}
use Rattle.std.specs.declared.cmp.Ordering.TheVariants.{Less, Equal, Greater}
use Rattle.std.specs.Ordering.{is_lt, is_gt, ordering_reverse}
use Rattle.std.specs.List.{AllByRecursion}
use Rattle.std.specs.List.Sorted.{IsStrictlySortedBy}
use Rattle.std.specs.Cmp.{IsTotalOrder}
use Rattle.std.specs.Map.{keys_of}
use Rattle.std.proofs.lemmas.Cmp.{alike_right}
use Rattle.std.proofs.lemmas.Map.Keys.{sorted_head, sorted_tail}
use Rattle.bptree_keys.specs.Contents.{IsAscending, pairs_below, pairs_above, has}
use Rattle.bptree_keys.specs.Indexes.{AllCompare, IsKeyGap, IsHit}
use Rattle.bptree_keys.proofs.Parted.{filter_all, filter_none}

-- a list is ascending if its first key is less than the others and these ascend
pub ascending_cons : {K : Type 0} (cmp : K → K → Ordering) (k : K) (keys : List K) → AllByRecursion (λ key. cmp k key ≡ Less) keys → IsStrictlySortedBy cmp keys → IsStrictlySortedBy cmp (k ∷ keys)
unfolding IsStrictlySortedBy
ascending_cons cmp k keys first rest = (first, rest)

-- a property of each key of two lists is one of each key of the lists together
module _ {K V : Type 0} (P : K → Type 0) where
  pub all_before : (before after : List (K × V)) → AllByRecursion P (keys_of (before ++ after)) → AllByRecursion P (keys_of before)
  all_before [] after all = tt
  all_before (p ∷ before) after all = (all.0, all_before before after all.1)

  pub all_after : (before after : List (K × V)) → AllByRecursion P (keys_of (before ++ after)) → AllByRecursion P (keys_of after)
  all_after [] after all = all
  all_after (p ∷ before) after all = all_after before after all.1

  pub all_joined : (before after : List (K × V)) → AllByRecursion P (keys_of before) → AllByRecursion P (keys_of after) → AllByRecursion P (keys_of (before ++ after))
  all_joined [] after first second = second
  all_joined (p ∷ before) after first second = (first.0, all_joined before after first.1 second)

-- a property of each key implies another property of each pair
pub all_pairs : {K V : Type 0} (P Q : K → Type 0) (turns : (key : K) → P key → Q key) (l : List (K × V)) → AllByRecursion P (keys_of l) → AllByRecursion (λ pair. Q pair.0) l
all_pairs P Q turns [] all = tt
all_pairs P Q turns (p ∷ l) all = (turns p.0 all.0, all_pairs P Q turns l all.1)

pub all_keys : {K V : Type 0} (P Q : K → Type 0) (turns : (key : K) → P key → Q key) (l : List (K × V)) → AllByRecursion (λ pair. P pair.0) l → AllByRecursion Q (keys_of l)
all_keys P Q turns [] all = tt
all_keys P Q turns (p ∷ l) all = (turns p.0 all.0, all_keys P Q turns l all.1)

module _ {K : Type 0} (cmp : K → K → Ordering) (total : IsTotalOrder cmp) where
  -- if x is less than y, y is greater than x
  pub greater_turned : (x y : K) → cmp x y ≡ Less → cmp y x ≡ Greater
  greater_turned x y less = total.antisymm y x ∙ ap ordering_reverse less

  pub less_turned : (x y : K) → cmp x y ≡ Greater → cmp y x ≡ Less
  less_turned x y greater = total.antisymm y x ∙ ap ordering_reverse greater

module _ {K V : Type 0} (cmp : K → K → Ordering) (total : IsTotalOrder cmp) where
  -- an equal key divides an ascending list into the smaller keys, its pair and the greater keys
  pub equal_parts : (before : List (K × V)) (pair : K × V) (after : List (K × V)) (k : K) → IsAscending cmp (before ++ pair ∷ after) → cmp pair.0 k ≡ Equal → IsHit cmp (before ++ pair ∷ after) before pair after k
  equal_parts [] pair after k ascending equal = record {
    parts = refl;
    smaller = tt;
    equal = equal;
    greater = all_pairs (λ key. cmp pair.0 key ≡ Less) (λ key. cmp key k ≡ Greater) (λ key less. greater_turned cmp total k key (sym (total.congr pair.0 k key equal) ∙ less)) after (sorted_head cmp pair.0 (keys_of after) ascending);
  }
  equal_parts (p ∷ before) pair after k ascending equal =
      let rest = equal_parts before pair after k (sorted_tail cmp p.0 (keys_of (before ++ pair ∷ after)) ascending) equal in
      let past = all_after (λ key. cmp p.0 key ≡ Less) before (pair ∷ after) (sorted_head cmp p.0 (keys_of (before ++ pair ∷ after)) ascending) in
      record {
        parts = refl;
        smaller = (sym (alike_right total pair.0 k p.0 equal) ∙ past.0, rest.smaller);
        equal = equal;
        greater = rest.greater;
      }

  -- a list stays ascending when a pair is inserted in the gap for its key
  pub ascending_in_gap : (before after : List (K × V)) (k : K) (v : V) → IsAscending cmp (before ++ after) → AllCompare cmp k Less before → AllCompare cmp k Greater after → IsAscending cmp (before ++ (k, v) ∷ after)
  ascending_in_gap [] after k v ascending smaller greater = ascending_cons cmp k (keys_of after) (all_keys (λ key. cmp key k ≡ Greater) (λ key. cmp k key ≡ Less) (λ key is. less_turned cmp total key k is) after greater) ascending
  ascending_in_gap (p ∷ before) after k v ascending smaller greater =
      let first = sorted_head cmp p.0 (keys_of (before ++ after)) ascending in
      let P : K → Type 0 = λ key. cmp p.0 key ≡ Less in
      ascending_cons cmp p.0 (keys_of (before ++ (k, v) ∷ after))
      (all_joined P before ((k, v) ∷ after) (all_before P before after first) (smaller.0, all_after P before after first))
      (ascending_in_gap before after k v (sorted_tail cmp p.0 (keys_of (before ++ after)) ascending) smaller.1 greater)

  -- each key after a greater key is greater
  pub greater_after : (p : K × V) (l : List (K × V)) (k : K) → IsAscending cmp (p ∷ l) → cmp p.0 k ≡ Greater → AllCompare cmp k Greater l
  greater_after p l k ascending greater = all_pairs (λ key. cmp p.0 key ≡ Less) (λ key. cmp key k ≡ Greater) (λ key less. greater_turned cmp total k key (total.trans k p.0 key (less_turned cmp total p.0 k greater) less)) l (sorted_head cmp p.0 (keys_of l) ascending)

  -- if no key equals k, the list is the smaller keys and then the greater: by cases of the comparison of the first key
  gap_cons : (p : K × V) (l : List (K × V)) (k : K) → IsAscending cmp (p ∷ l) → has cmp (p ∷ l) k ≡ false → (has cmp l k ≡ false → IsKeyGap cmp l (pairs_below cmp l k) (pairs_above cmp l k) k) → (o : Ordering) → cmp p.0 k ≡ o → IsKeyGap cmp (p ∷ l) (pairs_below cmp (p ∷ l) k) (pairs_above cmp (p ∷ l) k) k
  gap_cons p l k ascending absent later Less is =
      let rest = later (rw is at absent) in
      rw is (record { parts = ap (λ more. p ∷ more) rest.parts; smaller = (is, rest.smaller); greater = rest.greater })
  gap_cons p l k ascending absent later Equal is = absurd (true≢false (rw is at absent))
  gap_cons p l k ascending absent later Greater is =
      let all = greater_after p l k ascending is in
      rw (is, filter_none cmp k is_lt Greater l refl all, filter_all cmp k is_gt Greater l refl all) (record { parts = refl; smaller = tt; greater = (is, all) })

  pub gap_if_absent : (l : List (K × V)) (k : K) → IsAscending cmp l → has cmp l k ≡ false → IsKeyGap cmp l (pairs_below cmp l k) (pairs_above cmp l k) k
  gap_if_absent [] k ascending absent = record { parts = refl; smaller = tt; greater = tt }
  gap_if_absent (p ∷ l) k ascending absent = gap_cons p l k ascending absent (gap_if_absent l k (sorted_tail cmp p.0 (keys_of l) ascending)) (cmp p.0 k) refl

-- a new value changes no key
pub same_keys : {K V : Type 0} (before : List (K × V)) (pair : K × V) (v : V) (after : List (K × V)) → keys_of (before ++ (pair.0, v) ∷ after) ≡ keys_of (before ++ pair ∷ after)
same_keys [] pair v after = refl
same_keys (p ∷ before) pair v after = ap (λ keys. p.0 ∷ keys) (same_keys before pair v after)

-- a list stays ascending when a value is replaced
pub ascending_with_value : {K V : Type 0} (cmp : K → K → Ordering) (before : List (K × V)) (pair : K × V) (v : V) (after : List (K × V)) → IsAscending cmp (before ++ pair ∷ after) → IsAscending cmp (before ++ (pair.0, v) ∷ after)
ascending_with_value cmp before pair v after ascending = rw (same_keys before pair v after) ascending

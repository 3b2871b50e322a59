-- The results of look-ups, the order and the length after a pair is put or deleted.
use Rattle.std.proofs.Common.{◌≡◌, ◌+◌, Bool, true, false, not, List, [], ◌∷◌, ◌++◌, length, filter, Option, Some, None, refl, sym, ap, cond, is_some, ◌∙◌, ◌||◌, ◌&&◌, arith, length-append}
use Rattle.std.specs.declared.cmp.Ordering.{Ordering}
use Rattle.std.specs.declared.cmp.Ordering.TheVariants.{Less, Equal, Greater}
use Rattle.std.specs.Ordering.{is_eq}
use Rattle.std.specs.Cmp.{IsTotalOrder}
use Rattle.std.specs.Map.{keys_of}
use Rattle.std.proofs.lemmas.Cmp.{tied_itself, tied_back}
use Rattle.std.proofs.lemmas.List.Kept.{IsStrictlySortedBy-filter}
use Rattle.bptree_keys.specs.Contents.{IsAscending, pairs_below, pairs_above, has, value, put, del}
use Rattle.bptree_keys.specs.Indexes.{IsKeyGap, IsHit}
use Rattle.bptree_keys.proofs.Parted.{value_gap, value_hit, put_gap, put_hit, del_gap, del_hit}
use Rattle.bptree_keys.proofs.Ascending.{gap_if_absent}
use Rattle.bptree_keys.proofs.Equal.{value_at_equal, has_where_value}
use Rattle.bptree_keys.proofs.Laws.{found_if_there, hit_if_there}

-- the keys that remain after a filter by the key are the filtered keys
keys_of_filter : {K V : Type 0} (test : K → Bool) (l : List (K × V)) → keys_of (filter (λ pair. test pair.0) l) ≡ filter test (keys_of l)
keys_of_filter test [] = refl
keys_of_filter test (p ∷ l) =
    elim (test p.0) as (λ b. keys_of (cond b (p ∷ filter (λ pair. test pair.0) l) (filter (λ pair. test pair.0) l)) ≡ cond b (p.0 ∷ filter test (keys_of l)) (filter test (keys_of l))) [
      | true ↦ ap (λ more. p.0 ∷ more) (keys_of_filter test l)
      | false ↦ keys_of_filter test l
    ]

-- the list stays ascending when a pair is deleted
pub del_ascending : {K V : Type 0} (cmp : K → K → Ordering) (l : List (K × V)) (k : K) → IsAscending cmp l → IsAscending cmp (del cmp l k)
del_ascending cmp l k ascending = rw (keys_of_filter (λ key. not (is_eq (cmp key k))) l) (IsStrictlySortedBy-filter cmp (λ key. not (is_eq (cmp key k))) (keys_of l) ascending)

-- a look-up skips a pair with another key
value_past_other : {K V : Type 0} (cmp : K → K → Ordering) (before : List (K × V)) (pair : K × V) (after : List (K × V)) (j : K) → is_eq (cmp pair.0 j) ≡ false → value cmp (before ++ pair ∷ after) j ≡ value cmp (before ++ after) j
value_past_other cmp [] pair after j other = rw other refl
value_past_other cmp (p ∷ before) pair after j other = rw (value_past_other cmp before pair after j other) refl

equal_if : (o : Ordering) → is_eq o ≡ true → o ≡ Equal
equal_if Less same = cc
equal_if Equal same = refl
equal_if Greater same = cc

module _ {K V : Type 0} (cmp : K → K → Ordering) (total : IsTotalOrder cmp) (l : List (K × V)) (ascending : IsAscending cmp l) (k : K) where
  -- j equals k
  value_put_same : (v : V) (there : Bool) → has cmp l k ≡ there → value cmp (put cmp l k v) k ≡ Some v
  value_put_same v true is =
      let found = found_if_there cmp k l is in
      let hit = hit_if_there cmp total l ascending k is in
      let new : IsHit cmp (found.before ++ (found.pair.0, v) ∷ found.after) found.before (found.pair.0, v) found.after k = record { parts = refl; smaller = hit.smaller; equal = hit.equal; greater = hit.greater } in
      rw (put_hit cmp l _ _ _ k hit v) (value_hit cmp _ _ _ _ k new)
  value_put_same v false is =
      let gap = gap_if_absent cmp total l k ascending is in
      let new : IsHit cmp (pairs_below cmp l k ++ (k, v) ∷ pairs_above cmp l k) (pairs_below cmp l k) (k, v) (pairs_above cmp l k) k = record { parts = refl; smaller = gap.smaller; equal = tied_itself total k; greater = gap.greater } in
      rw (put_gap cmp l _ _ k gap v) (value_hit cmp _ _ _ _ k new)

  -- j does not
  value_put_other : (v : V) (j : K) (there : Bool) → has cmp l k ≡ there → is_eq (cmp k j) ≡ false → value cmp (put cmp l k v) j ≡ value cmp l j
  value_put_other v j true is other =
      let found = found_if_there cmp k l is in
      let hit = hit_if_there cmp total l ascending k is in
      let passed : is_eq (cmp found.pair.0 j) ≡ false = rw (total.congr found.pair.0 k j hit.equal) other in
      rw (put_hit cmp l _ _ _ k hit v) (value_past_other cmp found.before (found.pair.0, v) found.after j passed) ∙ sym (ap (λ m. value cmp m j) hit.parts ∙ value_past_other cmp found.before found.pair found.after j passed)
  value_put_other v j false is other =
      let gap = gap_if_absent cmp total l k ascending is in
      rw (put_gap cmp l _ _ k gap v) (value_past_other cmp _ (k, v) _ j other) ∙ sym (ap (λ m. value cmp m j) gap.parts)

  value_put_by : (v : V) (j : K) (same : Bool) → is_eq (cmp k j) ≡ same → value cmp (put cmp l k v) j ≡ cond same (Some v) (value cmp l j)
  value_put_by v j true same = value_at_equal cmp total (put cmp l k v) j k (tied_back total k j (equal_if (cmp k j) same)) ∙ value_put_same v (has cmp l k) refl
  value_put_by v j false same = value_put_other v j (has cmp l k) refl same

  -- the result of a look-up after a pair is put
  pub value_put : (v : V) (j : K) → value cmp (put cmp l k v) j ≡ cond (is_eq (cmp k j)) (Some v) (value cmp l j)
  value_put v j = value_put_by v j (is_eq (cmp k j)) refl

  some_of : (v : V) (same : Bool) (o : Option V) (there : Bool) → is_some o ≡ there → is_some (cond same (Some v) o) ≡ same || there
  some_of v true o there is = refl
  some_of v false o there is = is

  pub has_put : (v : V) (j : K) → has cmp (put cmp l k v) j ≡ is_eq (cmp k j) || has cmp l j
  has_put v j = sym (has_where_value cmp (put cmp l k v) j) ∙ ap is_some (value_put v j) ∙ some_of v (is_eq (cmp k j)) (value cmp l j) (has cmp l j) (has_where_value cmp l j)

  -- j equals k
  value_del_same : (there : Bool) → has cmp l k ≡ there → value cmp (del cmp l k) k ≡ None
  value_del_same true is =
      let found = found_if_there cmp k l is in
      let hit = hit_if_there cmp total l ascending k is in
      let new : IsKeyGap cmp (found.before ++ found.after) found.before found.after k = record { parts = refl; smaller = hit.smaller; greater = hit.greater } in
      rw (del_hit cmp l _ _ _ k hit) (value_gap cmp _ _ _ k new)
  value_del_same false is =
      let gap = gap_if_absent cmp total l k ascending is in
      rw (del_gap cmp l _ _ k gap) (value_gap cmp l _ _ k gap)

  -- j does not
  value_del_other : (j : K) (there : Bool) → has cmp l k ≡ there → is_eq (cmp k j) ≡ false → value cmp (del cmp l k) j ≡ value cmp l j
  value_del_other j true is other =
      let found = found_if_there cmp k l is in
      let hit = hit_if_there cmp total l ascending k is in
      let passed : is_eq (cmp found.pair.0 j) ≡ false = rw (total.congr found.pair.0 k j hit.equal) other in
      rw (del_hit cmp l _ _ _ k hit) (sym (ap (λ m. value cmp m j) hit.parts ∙ value_past_other cmp found.before found.pair found.after j passed))
  value_del_other j false is other = ap (λ m. value cmp m j) (del_gap cmp l _ _ k (gap_if_absent cmp total l k ascending is))

  value_del_by : (j : K) (same : Bool) → is_eq (cmp k j) ≡ same → value cmp (del cmp l k) j ≡ cond same None (value cmp l j)
  value_del_by j true same = value_at_equal cmp total (del cmp l k) j k (tied_back total k j (equal_if (cmp k j) same)) ∙ value_del_same (has cmp l k) refl
  value_del_by j false same = value_del_other j (has cmp l k) refl same

  -- the result of a look-up after a pair is deleted
  pub value_del : (j : K) → value cmp (del cmp l k) j ≡ cond (is_eq (cmp k j)) None (value cmp l j)
  value_del j = value_del_by j (is_eq (cmp k j)) refl

  some_left : (same : Bool) (o : Option V) (there : Bool) → is_some o ≡ there → is_some (cond same None o) ≡ not same && there
  some_left true o there is = refl
  some_left false o there is = is

  pub has_del : (j : K) → has cmp (del cmp l k) j ≡ not (is_eq (cmp k j)) && has cmp l j
  has_del j = sym (has_where_value cmp (del cmp l k) j) ∙ ap is_some (value_del j) ∙ some_left (is_eq (cmp k j)) (value cmp l j) (has cmp l j) (has_where_value cmp l j)

  -- the length of the list after a pair is put
  length_put_by : (v : V) (there : Bool) → has cmp l k ≡ there → length (put cmp l k v) ≡ cond there (length l) (length l + 1)
  length_put_by v true is =
      let found = found_if_there cmp k l is in
      let hit = hit_if_there cmp total l ascending k is in
      rw (put_hit cmp l _ _ _ k hit v) (length-append found.before ((found.pair.0, v) ∷ found.after) ∙ sym (ap length hit.parts ∙ length-append found.before (found.pair ∷ found.after)))
  length_put_by v false is =
      let gap = gap_if_absent cmp total l k ascending is in
      let long = ap length gap.parts in
      rw (put_gap cmp l _ _ k gap v) (omega (arith, long, length-append {A = K × V}))

  pub length_put : (v : V) → length (put cmp l k v) ≡ cond (has cmp l k) (length l) (length l + 1)
  length_put v = length_put_by v (has cmp l k) refl

  length_del_by : (there : Bool) → has cmp l k ≡ there → length (del cmp l k) + cond there 1 0 ≡ length l
  length_del_by true is =
      let found = found_if_there cmp k l is in
      let hit = hit_if_there cmp total l ascending k is in
      let long = ap length hit.parts in
      rw (del_hit cmp l _ _ _ k hit) (omega (arith, long, length-append found.before found.after, length-append found.before (found.pair ∷ found.after)))
  length_del_by false is =
      let gap = gap_if_absent cmp total l k ascending is in
      rw (del_gap cmp l _ _ k gap) (omega arith)

  pub length_del : length (del cmp l k) + cond (has cmp l k) 1 0 ≡ length l
  length_del = length_del_by (has cmp l k) refl

-- The results of the definitions of the contents for a list that is divided at a key.
use Rattle.std.proofs.Common.{◌≡◌, Bool, true, false, not, List, [], ◌∷◌, ◌++◌, filter, Some, None, refl}
use Rattle.std.specs.declared.cmp.Ordering.{Ordering}
use Rattle.std.specs.declared.cmp.Ordering.TheVariants.{Less, Greater}
use Rattle.std.specs.Ordering.{is_lt, is_eq, is_gt}
use Rattle.std.specs.Map.{set_value}
use Rattle.std.proofs.lemmas.List.{append-nil}
use Rattle.std.proofs.lemmas.List.Elements.{filter-append}
use Rattle.bptree_keys.specs.Contents.{pairs_below, pairs_above, has, value, put, del}
use Rattle.bptree_keys.specs.Indexes.{AllCompare, IsKeyGap, IsHit}

module _ {K V : Type 0} (cmp : K → K → Ordering) (k : K) where
  -- if every key compares as o with k, a filter by the comparison keeps all of the pairs, or no pair
  pub filter_all : (test : Ordering → Bool) (o : Ordering) (l : List (K × V)) → test o ≡ true → AllCompare cmp k o l → filter (λ pair. test (cmp pair.0 k)) l ≡ l
  filter_all test o [] passes all = refl
  filter_all test o (p ∷ l) passes all = rw (all.0, passes, filter_all test o l passes all.1) refl

  pub filter_none : (test : Ordering → Bool) (o : Ordering) (l : List (K × V)) → test o ≡ false → AllCompare cmp k o l → filter (λ pair. test (cmp pair.0 k)) l ≡ []
  filter_none test o [] fails all = refl
  filter_none test o (p ∷ l) fails all = rw (all.0, fails, filter_none test o l fails all.1) refl

  -- a look-up of k skips pairs whose keys do not equal k
  pub lookup_past : (o : Ordering) (before l : List (K × V)) → is_eq o ≡ false → AllCompare cmp k o before → value cmp (before ++ l) k ≡ value cmp l k
  lookup_past o [] l fails all = refl
  lookup_past o (p ∷ before) l fails all = rw (all.0, fails) (lookup_past o before l fails all.1)

  pub has_past : (o : Ordering) (before l : List (K × V)) → is_eq o ≡ false → AllCompare cmp k o before → has cmp (before ++ l) k ≡ has cmp l k
  has_past o [] l fails all = refl
  has_past o (p ∷ before) l fails all = rw (all.0, fails) (has_past o before l fails all.1)

  pub set_value_past : (o : Ordering) (before l : List (K × V)) (v : V) → is_eq o ≡ false → AllCompare cmp k o before → set_value (λ key. is_eq (cmp key k)) (before ++ l) v ≡ before ++ set_value (λ key. is_eq (cmp key k)) l v
  set_value_past o [] l v fails all = refl
  set_value_past o (p ∷ before) l v fails all = rw (all.0, fails, set_value_past o before l v fails all.1) refl

module _ {K V : Type 0} (cmp : K → K → Ordering) (l before after : List (K × V)) (k : K) (gap : IsKeyGap cmp l before after k) where
  pub has_gap : has cmp l k ≡ false
  has_gap = rw (gap.parts, has_past cmp k Less before after refl gap.smaller, ← append-nil after, has_past cmp k Greater after [] refl gap.greater) refl

  pub value_gap : value cmp l k ≡ None
  value_gap = rw (gap.parts, lookup_past cmp k Less before after refl gap.smaller, ← append-nil after, lookup_past cmp k Greater after [] refl gap.greater) refl

  pub pairs_below_gap : pairs_below cmp l k ≡ before
  pairs_below_gap = rw (gap.parts, filter-append, filter_all cmp k is_lt Less before refl gap.smaller, filter_none cmp k is_lt Greater after refl gap.greater) (append-nil before)

  pub pairs_above_gap : pairs_above cmp l k ≡ after
  pairs_above_gap = rw (gap.parts, filter-append, filter_none cmp k is_gt Less before refl gap.smaller, filter_all cmp k is_gt Greater after refl gap.greater) refl

  pub put_gap : (v : V) → put cmp l k v ≡ before ++ (k, v) ∷ after
  put_gap v = rw (has_gap, pairs_below_gap, pairs_above_gap) refl

  pub del_gap : del cmp l k ≡ l
  del_gap = rw (gap.parts, filter-append, filter_all cmp k (λ o. not (is_eq o)) Less before refl gap.smaller, filter_all cmp k (λ o. not (is_eq o)) Greater after refl gap.greater) refl

module _ {K V : Type 0} (cmp : K → K → Ordering) (l before : List (K × V)) (pair : K × V) (after : List (K × V)) (k : K) (hit : IsHit cmp l before pair after k) where
  pub has_hit : has cmp l k ≡ true
  has_hit = rw (hit.parts, has_past cmp k Less before (pair ∷ after) refl hit.smaller, hit.equal) refl

  pub value_hit : value cmp l k ≡ Some pair.1
  value_hit = rw (hit.parts, lookup_past cmp k Less before (pair ∷ after) refl hit.smaller, hit.equal) refl

  pub put_hit : (v : V) → put cmp l k v ≡ before ++ (pair.0, v) ∷ after
  put_hit v = rw (has_hit, hit.parts, set_value_past cmp k Less before (pair ∷ after) v refl hit.smaller, hit.equal) refl

  pub del_hit : del cmp l k ≡ before ++ after
  del_hit = rw (hit.parts, filter-append, filter_all cmp k (λ o. not (is_eq o)) Less before refl hit.smaller, hit.equal, filter_all cmp k (λ o. not (is_eq o)) Greater after refl hit.greater) refl

  pub set_value_hit : (v : V) → set_value (λ key. is_eq (cmp key k)) l v ≡ before ++ (pair.0, v) ∷ after
  set_value_hit v = rw (hit.parts, set_value_past cmp k Less before (pair ∷ after) v refl hit.smaller, hit.equal) refl

  pub pairs_below_hit : pairs_below cmp l k ≡ before
  pairs_below_hit = rw (hit.parts, filter-append, filter_all cmp k is_lt Less before refl hit.smaller, hit.equal, filter_none cmp k is_lt Greater after refl hit.greater) (append-nil before)

-- The members of a list outside a range of keys.
use Rattle.std.proofs.Common.{◌≡◌, Option, Bool, true, false, not, ◌&&◌, cond, filter, Some, None, List, [], ◌∷◌, refl}
use Rattle.std.specs.declared.cmp.Ordering.{Ordering}
use Rattle.std.specs.Map.Iter.{TakesFirst}
use Rattle.std.specs.Option.{is_some}
use Rattle.bptree_keys.specs.Contents.{has}
use Rattle.bptree_keys.specs.Ranges.{between, falls_short, stays_below}
use Rattle.bptree_map.specs.Keys.{holds, keys_between}
use Rattle.bptree_map.specs.RetainedKeys.{keys_outside}
use Rattle.bptree_tree.specs.RangeRemoval.{outside}
use Rattle.bptree_ranges.specs.Bounds.{between_bounds}
use Rattle.bptree_map.specs.KeyBounds.{keys_between_bounds}
use Rattle.bptree_invariant.proofs.Ordered.{by_cases}
use Rattle.std.specs.declared.ops.Bound.TheVariants.{Excluded, Included}

module _ {X : Type 0} (test : X → Bool) where
  one_of_both : (b : Bool) (x : X) (l : List X) → test x ≡ b → filter test (filter (λ x. not (test x)) l) ≡ [] → filter test (cond (not b) (x ∷ filter (λ x. not (test x)) l) (filter (λ x. not (test x)) l)) ≡ []
  one_of_both true x l is rest = rest
  one_of_both false x l is rest = rw is rest

  -- No member both fails and passes a test.
  pub none_of_both : (l : List X) → filter test (filter (λ x. not (test x)) l) ≡ []
  none_of_both [] = refl
  none_of_both (x ∷ l) = one_of_both (test x) x l refl (none_of_both l)

module _ {K V : Type 0} (cmp : K → K → Ordering) where
  pub none_between : (l : List (K × V)) (lo hi : K) → between cmp (outside cmp l (Some lo) (Some hi)) (Some lo) (Some hi) ≡ []
  none_between l lo hi = none_of_both (λ pair. not (falls_short cmp (Some lo) pair.0) && stays_below cmp (Some hi) pair.0) l

  -- The end of the range stays.
  pub end_stays : (l : List (K × V)) (lo hi : K) → has cmp (outside cmp l (Some lo) (Some hi)) hi ≡ has cmp l hi
  end_stays [] lo hi = refl
  end_stays (p ∷ l) lo hi =
      let rest = end_stays l lo hi in
      by_cases (cmp p.0 hi)
      (λ is. by_cases (cmp p.0 lo) (λ low. rw (is, low, is) rest) (λ low. rw (is, low) rest) (λ low. rw (is, low) rest))
      (λ is. by_cases (cmp p.0 lo) (λ low. rw (is, low, is) refl) (λ low. rw (is, low, is) refl) (λ low. rw (is, low, is) refl))
      (λ is. by_cases (cmp p.0 lo) (λ low. rw (is, low, is) rest) (λ low. rw (is, low, is) rest) (λ low. rw (is, low, is) rest))

  -- No key is both above and below one key.
  pub none_beside : (l : List (K × V)) (k : K) → between_bounds cmp l (Excluded k) (Excluded k) ≡ []
  none_beside [] k = refl
  none_beside (p ∷ l) k = by_cases (cmp p.0 k) (λ is. rw is (none_beside l k)) (λ is. rw is (none_beside l k)) (λ is. rw is (none_beside l k))

module _ {K V A : Type 0} (cmp : K → K → Ordering) (shows : A → K × V) (k : K) where
  some_taken : (p : K × V) (s : List (K × V)) (r : Option A) (t : List (K × V)) → TakesFirst shows (p ∷ s) r t → is_some r ≡ true
  some_taken p s None t taken = cc
  some_taken p s (Some x) t taken = refl

  -- The first pair from a key up to and including the key is present if and only if the key is.
  pub itself_taken : (l : List (K × V)) (r : Option A) (t : List (K × V)) → TakesFirst shows (between_bounds cmp l (Included k) (Included k)) r t → is_some r ≡ has cmp l k
  itself_taken [] None t taken = refl
  itself_taken [] (Some x) t taken = cc
  itself_taken (p ∷ l) r t taken =
      by_cases (cmp p.0 k)
      (λ is. rw is (itself_taken l r t (rw is at taken)))
      (λ is. rw is (some_taken p _ r t (rw is at taken)))
      (λ is. rw is (itself_taken l r t (rw is at taken)))

module _ {K : Type 0} (cmp : K → K → Ordering) where
  pub no_key_between : (l : List K) (lo hi : K) → keys_between cmp (keys_outside cmp l (Some lo) (Some hi)) (Some lo) (Some hi) ≡ []
  no_key_between l lo hi = none_of_both (λ key. not (falls_short cmp (Some lo) key) && stays_below cmp (Some hi) key) l

  pub end_key_stays : (l : List K) (lo hi : K) → holds cmp (keys_outside cmp l (Some lo) (Some hi)) hi ≡ holds cmp l hi
  end_key_stays [] lo hi = refl
  end_key_stays (k ∷ l) lo hi =
      let rest = end_key_stays l lo hi in
      by_cases (cmp k hi)
      (λ is. by_cases (cmp k lo) (λ low. rw (is, low, is) rest) (λ low. rw (is, low) rest) (λ low. rw (is, low) rest))
      (λ is. by_cases (cmp k lo) (λ low. rw (is, low, is) refl) (λ low. rw (is, low, is) refl) (λ low. rw (is, low, is) refl))
      (λ is. by_cases (cmp k lo) (λ low. rw (is, low, is) rest) (λ low. rw (is, low, is) rest) (λ low. rw (is, low, is) rest))

  pub no_key_beside : (l : List K) (k : K) → keys_between_bounds cmp l (Excluded k) (Excluded k) ≡ []
  no_key_beside [] k = refl
  no_key_beside (key ∷ l) k = by_cases (cmp key k) (λ is. rw is (no_key_beside l k)) (λ is. rw is (no_key_beside l k)) (λ is. rw is (no_key_beside l k))

-- Taking from an empty list returns `None`.
pub none_taken : {A X : Type 0} (shows : A → X) (s : List X) (r : Option A) (t : List X) → s ≡ [] → TakesFirst shows s r t → r ≡ None
none_taken shows s None t none taken = refl
none_taken shows s (Some x) t none taken = cc

pub true_if_not_false : (b : Bool) → false ≡ not b → b ≡ true
true_if_not_false true is = refl
true_if_not_false false is = is

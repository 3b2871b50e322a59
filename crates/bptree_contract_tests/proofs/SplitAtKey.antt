-- A key in the two parts of a list that is split at the key.
use Rattle.std.proofs.Common.{◌≡◌, ◌≤◌, ℕ, Some, None, List, [], ◌∷◌, ◌++◌, length, length-append, true, false, arith, refl, ap}
use Rattle.std.specs.declared.cmp.Ordering.{Ordering}
use Rattle.bptree_keys.specs.Contents.{has}
use Rattle.bptree_keys.specs.Ranges.{between}
use Rattle.bptree_map.specs.Keys.{holds, keys_between}
use Rattle.bptree_invariant.proofs.Ordered.{by_cases}

module _ {K V : Type 0} (cmp : K → K → Ordering) (k : K) where
  pub gone_below : (l : List (K × V)) → has cmp (between cmp l None (Some k)) k ≡ false
  gone_below [] = refl
  gone_below (p ∷ l) = by_cases (cmp p.0 k) (λ is. rw (is, is) (gone_below l)) (λ is. rw is (gone_below l)) (λ is. rw is (gone_below l))

  pub stays_above : (l : List (K × V)) → has cmp (between cmp l (Some k) None) k ≡ has cmp l k
  stays_above [] = refl
  stays_above (p ∷ l) = by_cases (cmp p.0 k) (λ is. rw is (stays_above l)) (λ is. rw (is, is) refl) (λ is. rw (is, is) (stays_above l))

module _ {K : Type 0} (cmp : K → K → Ordering) (k : K) where
  pub key_gone_below : (keys : List K) → holds cmp (keys_between cmp keys None (Some k)) k ≡ false
  key_gone_below [] = refl
  key_gone_below (key ∷ keys) = by_cases (cmp key k) (λ is. rw (is, is) (key_gone_below keys)) (λ is. rw is (key_gone_below keys)) (λ is. rw is (key_gone_below keys))

  pub key_stays_above : (keys : List K) → holds cmp (keys_between cmp keys (Some k) None) k ≡ holds cmp keys k
  key_stays_above [] = refl
  key_stays_above (key ∷ keys) = by_cases (cmp key k) (λ is. rw is (key_stays_above keys)) (λ is. rw (is, is) refl) (λ is. rw (is, is) (key_stays_above keys))

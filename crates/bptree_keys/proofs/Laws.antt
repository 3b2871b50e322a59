-- The definitions keep an ascending list ascending.
use Rattle.std.proofs.Common.{◌≡◌, Bool, true, false, List, [], ◌∷◌, ◌++◌, refl, sym, ap, subst, cond}
use mathlib.Core.Bool.{true≢false}
use Rattle.std.specs.declared.cmp.Ordering.{Ordering}
use Rattle.std.specs.declared.cmp.Ordering.TheVariants.{Less, Equal, Greater}
use Rattle.std.specs.Cmp.{IsTotalOrder}
use Rattle.std.specs.List.Sorted.{IsStrictlySortedBy}
use Rattle.bptree_keys.specs.Contents.{IsAscending, has, put, gather}
use Rattle.bptree_keys.specs.Indexes.{IsHit}
use Rattle.bptree_keys.proofs.Parted.{put_gap, put_hit}
use Rattle.bptree_keys.proofs.Ascending.{equal_parts, gap_if_absent, ascending_in_gap, ascending_with_value}

-- a pair with an equal key, and the pairs before and after it
pub record Found {K V : Type 0} (cmp : K → K → Ordering) (l : List (K × V)) (k : K) : Type 0 where
  pub before : List (K × V)
  pub pair : K × V
  pub after : List (K × V)
  pub parts : l ≡ before ++ pair ∷ after
  pub equal : cmp pair.0 k ≡ Equal

module _ {K V : Type 0} (cmp : K → K → Ordering) (k : K) where
  found_cons : (p : K × V) (l : List (K × V)) → (has cmp l k ≡ true → Found cmp l k) → (o : Ordering) → cmp p.0 k ≡ o → has cmp (p ∷ l) k ≡ true → Found cmp (p ∷ l) k
  found_cons p l later Less is there =
      let rest = later (rw is at there) in
      record { before = p ∷ rest.before; pair = rest.pair; after = rest.after; parts = ap (λ more. p ∷ more) rest.parts; equal = rest.equal }
  found_cons p l later Equal is there = record { before = []; pair = p; after = l; parts = refl; equal = is }
  found_cons p l later Greater is there =
      let rest = later (rw is at there) in
      record { before = p ∷ rest.before; pair = rest.pair; after = rest.after; parts = ap (λ more. p ∷ more) rest.parts; equal = rest.equal }

  pub found_if_there : (l : List (K × V)) → has cmp l k ≡ true → Found cmp l k
  found_if_there [] there = absurd (true≢false (sym there))
  found_if_there (p ∷ l) there = found_cons p l (found_if_there l) (cmp p.0 k) refl there

module _ {K V : Type 0} (cmp : K → K → Ordering) (total : IsTotalOrder cmp) (l : List (K × V)) (ascending : IsAscending cmp l) (k : K) where
  -- an equal key divides the list
  pub hit_if_there : (there : has cmp l k ≡ true) → let found = found_if_there cmp k l there in IsHit cmp l found.before found.pair found.after k
  hit_if_there there =
      let found = found_if_there cmp k l there in
      let hit = equal_parts cmp total found.before found.pair found.after k (subst (IsAscending cmp) found.parts ascending) found.equal in
      record { parts = found.parts; smaller = hit.smaller; equal = hit.equal; greater = hit.greater }

  put_ascending_by : (v : V) (b : Bool) → has cmp l k ≡ b → IsAscending cmp (put cmp l k v)
  put_ascending_by v true there =
      let hit = hit_if_there there in
      rw (put_hit cmp l _ _ _ k hit v) (ascending_with_value cmp _ _ v _ (subst (IsAscending cmp) hit.parts ascending))
  put_ascending_by v false absent =
      let gap = gap_if_absent cmp total l k ascending absent in
      rw (put_gap cmp l _ _ k gap v) (ascending_in_gap cmp total _ _ k v (subst (IsAscending cmp) gap.parts ascending) gap.smaller gap.greater)

  -- the list stays ascending
  pub put_ascending : (v : V) → IsAscending cmp (put cmp l k v)
  put_ascending v = put_ascending_by v (has cmp l k) refl

module _ {K V : Type 0} (cmp : K → K → Ordering) (total : IsTotalOrder cmp) where
  pub gather_ascending : (pairs : List (K × V)) → IsAscending cmp (gather cmp pairs)
  unfolding IsStrictlySortedBy
  gather_ascending [] = tt
  gather_ascending (pair ∷ rest) =
      elim (has cmp rest pair.0) as (λ b. IsAscending cmp (cond b (gather cmp rest) (put cmp (gather cmp rest) pair.0 pair.1))) [
        | true ↦ gather_ascending rest
        | false ↦ put_ascending cmp total (gather cmp rest) (gather_ascending rest) pair.0 pair.1
      ]

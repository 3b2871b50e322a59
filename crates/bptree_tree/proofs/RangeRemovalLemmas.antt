-- The first pair that passes a test is removed from an ascending list.
use Rattle.std.proofs.Common.{◌≡◌, ◌≢◌, ◌≤◌, ◌∙◌, ◌&&◌, arith, sym, ap, refl, Bool, true, false, not, cond, filter, Option, Some, List, [], ◌∷◌, ◌++◌, length, slice_get, append-nil, append_assoc}
use Rattle.std.specs.declared.cmp.Ordering.{Ordering}
use Rattle.std.specs.declared.cmp.Ordering.TheVariants.{Less, Equal, Greater}
use Rattle.std.specs.Cmp.{IsTotalOrder}
use Rattle.std.proofs.lemmas.Cmp.{tied_itself}
use Rattle.std.proofs.lemmas.List.Elements.{filter-append}
use Rattle.bptree_keys.specs.Contents.{IsAscending, del, has}
use Rattle.bptree_keys.specs.Ranges.{between, falls_short, stays_below}
use Rattle.bptree_keys.proofs.Ascending.{gap_if_absent}
use Rattle.bptree_keys.proofs.Laws.{found_if_there, hit_if_there}
use Rattle.bptree_tree.specs.RangeRemoval.{FirstLeaves}
use Rattle.bptree_keys.specs.Indexes.{AllCompare, IsKeyGap, IsHit}
use Rattle.bptree_keys.proofs.Parted.{del_hit}

module _ {X : Type 0} (test : X → Bool) where
  one_stays : (b : Bool) (x : X) (l : List X) → (filter test l ≡ [] → filter (λ x. not (test x)) l ≡ l) → cond b (x ∷ filter test l) (filter test l) ≡ [] → cond (not b) (x ∷ filter (λ x. not (test x)) l) (filter (λ x. not (test x)) l) ≡ x ∷ l
  one_stays true x l rest none = absurd cc
  one_stays false x l rest none = ap (λ m. x ∷ m) (rest none)

  -- if no member passes, all fail
  pub all_fail : (l : List X) → filter test l ≡ [] → filter (λ x. not (test x)) l ≡ l
  all_fail [] none = refl
  all_fail (x ∷ l) none = one_stays (test x) x l (all_fail l) none

module _ {K V : Type 0} (cmp : K → K → Ordering) (test : K × V → Bool) (k : K) (p : K × V) (equal : cmp p.0 k ≡ Equal) where
  one_skipped : (o : Ordering) → (o ≡ Equal → ⊥) → (b : Bool) (x : K × V) (before tail : List (K × V)) → cmp x.0 k ≡ o → (slice_get (filter test before ++ tail) 0 ≡ Some p → filter test before ≡ []) → slice_get (cond b (x ∷ filter test before) (filter test before) ++ tail) 0 ≡ Some p → cond b (x ∷ filter test before) (filter test before) ≡ []
  one_skipped o apart true x before tail outcome rest is = let same : x ≡ p = cc in absurd (apart (sym outcome ∙ ap (λ q. cmp q.0 k) same ∙ equal))
  one_skipped o apart false x before tail outcome rest is = rest is

  -- no pair with an unequal key comes first
  none_first : (o : Ordering) → (o ≡ Equal → ⊥) → (before tail : List (K × V)) → AllCompare cmp k o before → slice_get (filter test before ++ tail) 0 ≡ Some p → filter test before ≡ []
  none_first o apart [] tail all is = refl
  none_first o apart (x ∷ before) tail all is = one_skipped o apart (test x) x before tail all.0 (none_first o apart before tail all.1) is

  less_apart : Less ≡ Equal → ⊥
  less_apart is = absurd cc

  greater_apart : Greater ≡ Equal → ⊥
  greater_apart is = absurd cc

  none_behind : (after : List (K × V)) → AllCompare cmp k Greater after → slice_get (filter test after) 0 ≡ Some p → filter test after ≡ []
  none_behind after greater is = none_first Greater greater_apart after [] greater (rw (append-nil (filter test after)) is)

  -- if no key equals that of the first pair that passes, no pair passes
  pub none_passes : (l before after : List (K × V)) → IsKeyGap cmp l before after k → slice_get (filter test l) 0 ≡ Some p → filter test l ≡ []
  none_passes l before after gap is =
      let parted : filter test l ≡ filter test before ++ filter test after = ap (filter test) gap.parts ∙ filter-append test before after in
      let none : filter test before ≡ [] = none_first Less less_apart before (filter test after) gap.smaller (rw parted at is) in
      parted ∙ rw none (none_behind after gap.greater (rw (parted, none) at is))

  module _ (l before : List (K × V)) (pair : K × V) (after : List (K × V)) (hit : IsHit cmp l before pair after k) (is : slice_get (filter test l) 0 ≡ Some p) where
    not_there : slice_get {X = K × V} [] 0 ≡ Some p → ⊥
    not_there is = absurd cc

    by_test : (b : Bool) → test pair ≡ b → filter test before ≡ [] → slice_get (cond b (pair ∷ filter test after) (filter test after)) 0 ≡ Some p → test pair ≡ true
    by_test true same none first = same
    by_test false same none first = let empty : filter test after ≡ [] = none_behind after hit.greater first in absurd (not_there (rw empty at first))

    parted : filter test l ≡ filter test before ++ cond (test pair) (pair ∷ filter test after) (filter test after)
    parted = ap (filter test) hit.parts ∙ filter-append test before (pair ∷ after)

    none_before : filter test before ≡ []
    none_before = none_first Less less_apart before (cond (test pair) (pair ∷ filter test after) (filter test after)) hit.smaller (rw parted at is)

    passes : test pair ≡ true
    passes = by_test (test pair) refl none_before (rw (parted, none_before) at is)

    -- the first pair that passes is the one that is removed, and all that fail stay
    pub first_leaves : (filter test l ≡ pair ∷ filter test (del cmp l k)) × (filter (λ x. not (test x)) (del cmp l k) ≡ filter (λ x. not (test x)) l)
    first_leaves = rw (del_hit cmp l before pair after k hit) (
      rw (filter-append test before after, parted, none_before, passes) refl,
      rw (hit.parts, filter-append (λ x. not (test x)) before after, filter-append (λ x. not (test x)) before (pair ∷ after), passes) refl,
    )

-- the first pair between two ends
module _ {K V : Type 0} {cmp : K → K → Ordering} (total : IsTotalOrder cmp) (lo hi : Option K) (k : K) (v : V) (rest old : List (K × V)) (sorted : IsAscending cmp old) (steps : between cmp old lo hi ≡ (k, v) ∷ rest) where
  first : slice_get (between cmp old lo hi) 0 ≡ Some (k, v)
  first = rw steps refl

  -- if no key equals its key, there is no pair between the ends
  pub absent_between : has cmp old k ≡ false → between cmp old lo hi ≡ []
  absent_between absent = none_passes cmp (λ pair. not (falls_short cmp lo pair.0) && stays_below cmp hi pair.0) k (k, v) (tied_itself total k) old _ _ (gap_if_absent cmp total old k sorted absent) first

  -- the pair that is removed by its key is that one
  pub first_between : has cmp old k ≡ true → (new : List (K × V)) → new ≡ del cmp old k → FirstLeaves cmp lo hi true old new
  first_between there new left =
      let found = found_if_there cmp k old there in
      let parts = first_leaves cmp (λ pair. not (falls_short cmp lo pair.0) && stays_below cmp hi pair.0) k (k, v) (tied_itself total k) old found.before found.pair found.after (hit_if_there cmp total old sorted k there) first in
      (found.pair, rw left parts.0, rw left parts.1)

-- a filtered list is not longer than the list
module _ {X : Type 0} (test : X → Bool) where
  one_longer : (b : Bool) (x : X) (l : List X) → length (filter test l) ≤ length l → length (cond b (x ∷ filter test l) (filter test l)) ≤ length (x ∷ l)
  one_longer true x l le = omega (arith, le)
  one_longer false x l le = omega (arith, le)

  pub no_longer : (l : List X) → length (filter test l) ≤ length l
  no_longer [] = omega arith
  no_longer (x ∷ l) = one_longer (test x) x l (no_longer l)

-- one more member was removed
pub left_on : {X : Type 0} (old gone cur new : List X) (pair : X) → old ≡ gone ++ cur → cur ≡ pair ∷ new → old ≡ (gone ++ pair ∷ []) ++ new
left_on old gone cur new pair is first = is ∙ ap (λ l. gone ++ l) first ∙ sym (append_assoc gone (pair ∷ []) new)

-- a list with a member is not empty, and no part of an empty list has one
pub some_not_none : {X : Type 0} (l rest : List X) (x : X) → l ≡ x ∷ rest → l ≢ []
some_not_none l rest x some none = let both : x ∷ rest ≡ [] = sym some ∙ none in cc

pub none_in_parts : {X : Type 0} (left cur : List X) → left ++ cur ≡ [] → (left ≡ []) × (cur ≡ [])
none_in_parts [] cur none = (refl, none)
none_in_parts (x ∷ left) cur none = absurd cc

-- A list that is cut behind a key, and parts of which all members are taken.
use Rattle.std.proofs.Common.{◌≡◌, Bool, true, false, not, List, [], ◌∷◌, ◌++◌, ◌&&◌, Option, None, filter, length, take, reverse, cond, refl, ap, ◌∙◌, arith}
use Rattle.std.specs.declared.cmp.Ordering.{Ordering}
use Rattle.std.specs.declared.cmp.Ordering.TheVariants.{Less, Equal, Greater}
use Rattle.std.specs.Ordering.{is_gt}
use Rattle.std.specs.Cmp.{IsTotalOrder}
use Rattle.std.specs.Map.{keys_of}
use Rattle.std.proofs.lemmas.List.{take_all, length-reverse, reverse-reverse}
use Rattle.std.proofs.lemmas.List.Sums.{length-filter, count_by-le-length}
use Rattle.std.proofs.lemmas.Map.Keys.{sorted_tail}
use Rattle.bptree_keys.specs.Contents.{IsAscending, pairs_above}
use Rattle.bptree_keys.specs.Ranges.{between, falls_short, stays_below}
use Rattle.bptree_keys.proofs.Ascending.{greater_after}
use Rattle.bptree_keys.proofs.Parted.{filter_all, filter_none}

-- Taking as many members as the list has takes all that pass a test.
pub all_passed : {X : Type 0} (test : X → Bool) (l : List X) → take (length l) (filter test l) ≡ filter test l
all_passed test l = take_all (length l) (filter test l) (omega (arith, length-filter test l, count_by-le-length test l))

greater_is : (o : Ordering) → is_gt o ≡ true → o ≡ Greater
greater_is Less is = absurd cc
greater_is Equal is = absurd cc
greater_is Greater is = refl

-- Taking all of a reversed list and reversing the result gives the list.
pub all_back : {X : Type 0} (test : X → Bool) (l : List X) → reverse (take (length l) (reverse (filter test l))) ≡ filter test l
all_back test l =
    ap reverse (take_all (length l) (reverse (filter test l)) (omega (arith, length-filter test l, count_by-le-length test l, length-reverse (filter test l)))) ∙ reverse-reverse (filter test l)

-- Taking as many pairs as the list has takes all pairs of a range.
pub all_between : {K V : Type 0} (cmp : K → K → Ordering) (l : List (K × V)) (lo hi : Option K) → take (length l) (between cmp l lo hi) ≡ between cmp l lo hi
all_between cmp l lo hi = all_passed (λ pair. not (falls_short cmp lo pair.0) && stays_below cmp hi pair.0) l

-- A range without ends is the whole list.
pub no_ends : {K V : Type 0} (cmp : K → K → Ordering) (l : List (K × V)) → between cmp l None None ≡ l
no_ends cmp [] = refl
no_ends cmp (p ∷ l) = ap (λ m. p ∷ m) (no_ends cmp l)

module _ {K V : Type 0} (cmp : K → K → Ordering) (order : IsTotalOrder cmp) (k : K) where
  abbrev up_to : List (K × V) → List (K × V)
  up_to l = filter (λ pair. not (is_gt (cmp pair.0 k))) l

  step : (p : K × V) (l : List (K × V)) (b : Bool) → is_gt (cmp p.0 k) ≡ b → IsAscending cmp (p ∷ l) → up_to l ++ pairs_above cmp l k ≡ l
      → cond (not b) (p ∷ up_to l) (up_to l) ++ cond b (p ∷ pairs_above cmp l k) (pairs_above cmp l k) ≡ p ∷ l
  step p l false is ascending rest = ap (λ m. p ∷ m) rest
  step p l true is ascending rest =
      let all = greater_after cmp order p l k ascending (greater_is (cmp p.0 k) is) in
      let none : up_to l ≡ [] = filter_none cmp k (λ o. not (is_gt o)) Greater l refl all in
      ap (λ m. m ++ p ∷ pairs_above cmp l k) none ∙ ap (λ m. p ∷ m) (filter_all cmp k is_gt Greater l refl all)

  -- The pairs up to a key, followed by those above it, are the list.
  pub cut_behind : (l : List (K × V)) → IsAscending cmp l → filter (λ pair. not (is_gt (cmp pair.0 k))) l ++ pairs_above cmp l k ≡ l
  cut_behind [] ascending = refl
  cut_behind (p ∷ l) ascending = step p l (is_gt (cmp p.0 k)) refl ascending (cut_behind l (sorted_tail cmp p.0 (keys_of l) ascending))

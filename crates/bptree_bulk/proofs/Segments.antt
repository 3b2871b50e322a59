-- A part of an ascending list is what is between its first key and the key behind it.
use Rattle.std.proofs.Common.{◌≡◌, ◌∙◌, ◌+◌, ◌-◌, ◌<◌, ◌≤◌, ℕ, zero, suc, sym, ap, subst, refl, Bool, true, false, not, ◌&&◌, filter, Option, Some, None, List, [], ◌∷◌, ◌++◌, length, take, drop, arith, append_assoc, append-nil}
use Rattle.std.specs.declared.cmp.Ordering.{Ordering}
use Rattle.std.specs.declared.cmp.Ordering.TheVariants.{Less, Equal}
use Rattle.std.specs.Cmp.{IsTotalOrder}
use Rattle.std.specs.List.{AllByRecursion}
use Rattle.std.specs.Borrow.{Bor}
use Rattle.std.specs.Option.{option_copied, IsSome}
use Rattle.std.specs.Ordering.{is_lt}
use Rattle.std.proofs.lemmas.Cmp.{tied_back, tied_itself}
use Rattle.std.proofs.lemmas.List.{length-drop, length-take-le, take-append-drop}
use Rattle.std.proofs.lemmas.List.Elements.{filter-append}
use Rattle.bptree_propagation.specs.Change.{StartsAt}
use Rattle.bptree_propagation.proofs.LeafEdit.{below_start, from_start}
use Rattle.bptree_bulk.proofs.Passed.{take_one}
use Rattle.bptree_bulk.specs.Cut.{first_key}
use Rattle.bptree_keys.specs.Contents.{IsAscending}
use Rattle.bptree_keys.specs.Ranges.{between, falls_short, part, stays_below}
use Rattle.bptree_keys.proofs.PieceLemmas.{AllByRecursion-left, AllByRecursion-weaker}
use Rattle.bptree_invariant.proofs.Between.{each_of, none_pass}
use Rattle.bptree_invariant.proofs.Ordered.{ascending_after}

drop_none : {X : Type 0} (k : ℕ) → drop {A = X} k [] ≡ []
drop_none zero = refl
drop_none (suc k) = refl

pub drop_more : {X : Type 0} (n m : ℕ) (l : List X) → drop m (drop n l) ≡ drop (n + m) l
drop_more zero m l = let same : m ≡ 0 + m = omega arith in ap (λ k. drop k l) same
drop_more (suc n) m [] = drop_none m ∙ sym (drop_none (suc n + m))
drop_more (suc n) m (x ∷ l) = let next : suc n + m ≡ suc (n + m) = omega arith in drop_more n m l ∙ ap (λ k. drop k (x ∷ l)) (sym next)

and_false : (b : Bool) → (b && false) ≡ false
and_false true = refl
and_false false = refl

pub every_passes : {X : Type 0} (test : X → Bool) (l : List X) → AllByRecursion (λ x. test x ≡ true) l → filter test l ≡ l
every_passes test [] all = refl
every_passes test (x ∷ l) all = rw all.0 (ap (λ rest. x ∷ rest) (every_passes test l all.1))

module _ {K V : Type 0} {cmp : K → K → Ordering} (total : IsTotalOrder cmp) where
  own_start : (p : K × V) (ps : List (K × V)) → StartsAt cmp p.0 (p ∷ ps)
  own_start p ps = tied_itself total p.0

  low : (b : K) (hi : Option K) (l : List (K × V)) → AllByRecursion (λ p. cmp p.0 b ≡ Less) l → AllByRecursion (λ (p : K × V). (not (falls_short cmp (Some b) p.0) && stays_below cmp hi p.0) ≡ false) l
  low b hi [] all = tt
  low b hi (x ∷ l) all = (rw all.0 refl, low b hi l all.1)

  inside : (b : K) (hi : Option K) (l : List (K × V)) → AllByRecursion (λ p. is_lt (cmp p.0 b) ≡ false) l → AllByRecursion (λ p. stays_below cmp hi p.0 ≡ true) l → AllByRecursion (λ (p : K × V). (not (falls_short cmp (Some b) p.0) && stays_below cmp hi p.0) ≡ true) l
  inside b hi [] from below = tt
  inside b hi (x ∷ l) from below = (rw (from.0, below.0) refl, inside b hi l from.1 below.1)

  high : (b : K) (hi : Option K) (l : List (K × V)) → AllByRecursion (λ p. stays_below cmp hi p.0 ≡ false) l → AllByRecursion (λ (p : K × V). (not (falls_short cmp (Some b) p.0) && stays_below cmp hi p.0) ≡ false) l
  high b hi [] all = tt
  high b hi (x ∷ l) all = (rw all.0 (and_false (not (falls_short cmp (Some b) x.0))), high b hi l all.1)

  part_below : (xs rest : List (K × V)) → IsAscending cmp (xs ++ rest) → AllByRecursion (λ p. stays_below cmp (first_key rest) p.0 ≡ true) xs
  part_below xs [] ascending = each_of (λ (p : K × V). true ≡ true) (λ p. refl) xs
  part_below xs (q ∷ rest) ascending = AllByRecursion-weaker _ _ (λ p less. ap is_lt less) xs (below_start total q.0 xs (q ∷ rest) ascending (own_start q rest))

  rest_above : (rest : List (K × V)) → IsAscending cmp rest → AllByRecursion (λ p. stays_below cmp (first_key rest) p.0 ≡ false) rest
  rest_above [] ascending = tt
  rest_above (q ∷ rest) ascending = from_start total q.0 (q ∷ rest) ascending (own_start q rest)

  segment : (l before : List (K × V)) (p : K × V) (ps rest : List (K × V)) → l ≡ before ++ ((p ∷ ps) ++ rest) → IsAscending cmp l → between cmp l (Some p.0) (first_key rest) ≡ p ∷ ps
  segment l before p ps rest is ascending =
      let hi = first_key rest in
      let test : K × V → Bool = λ pair. not (falls_short cmp (Some p.0) pair.0) && stays_below cmp hi pair.0 in
      let whole : IsAscending cmp (before ++ ((p ∷ ps) ++ rest)) = subst (IsAscending cmp) is ascending in
      let later = ascending_after total before ((p ∷ ps) ++ rest) whole in
      let none = none_pass test before (low p.0 hi before (below_start total p.0 before ((p ∷ ps) ++ rest) whole (own_start p (ps ++ rest)))) in
      let behind = none_pass test rest (high p.0 hi rest (rest_above rest (ascending_after total (p ∷ ps) rest later))) in
      let from = from_start total p.0 ((p ∷ ps) ++ rest) later (own_start p (ps ++ rest)) in
      let own = every_passes test (p ∷ ps) (inside p.0 hi (p ∷ ps) (AllByRecursion-left (λ pair. is_lt (cmp pair.0 p.0) ≡ false) (p ∷ ps) rest from) (part_below (p ∷ ps) rest later)) in
      ap (filter test) is
      ∙ (filter-append test before ((p ∷ ps) ++ rest)
      ∙ (ap (λ m. m ++ filter test ((p ∷ ps) ++ rest)) none
      ∙ (filter-append test (p ∷ ps) rest
      ∙ (ap (λ m. filter test (p ∷ ps) ++ m) behind ∙ (append-nil (filter test (p ∷ ps)) ∙ own)))))

  -- a part of the end of a longer ascending list: its pairs, and the key a leaf of them begins with
  module _ (l before : List (K × V)) (from count : ℕ) (all : List (K × V)) (is : all ≡ before ++ l) (ascending : IsAscending cmp all) (some : 0 < count) (within : from + count ≤ length l) where
    pub piece_len : length (part l from count) ≡ count
    piece_len = length-take-le count (drop from l) (omega (arith, length-drop from l, within))

    at_first : (d : List (K × V)) → drop from l ≡ d → (k : K) → first_key d ≡ Some k
        → (between cmp all (Some k) (first_key (drop (from + count) l)) ≡ part l from count) × ((s : K) → cmp k s ≡ Equal → StartsAt cmp s (part l from count))
    at_first [] none k first = cc
    at_first (p ∷ d) starts k first =
        let key : p.0 ≡ k = cc in
        let these : part l from count ≡ p ∷ take (count - 1) d = ap (take count) starts ∙ take_one count p d some in
        let rest = drop (from + count) l in
        let tail : drop from l ≡ part l from count ++ rest = sym (take-append-drop count (drop from l)) ∙ ap (λ r. part l from count ++ r) (drop_more from count l) in
        let whole : all ≡ (before ++ take from l) ++ ((p ∷ take (count - 1) d) ++ rest) = is ∙ (ap (λ m. before ++ m) (sym (take-append-drop from l) ∙ ap (λ m. take from l ++ m) (tail ∙ ap (λ m. m ++ rest) these)) ∙ sym (append_assoc before (take from l) ((p ∷ take (count - 1) d) ++ rest))) in (
          subst (λ q. between cmp all (Some q) (first_key rest) ≡ part l from count) key (segment all (before ++ take from l) p (take (count - 1) d) rest whole ascending ∙ sym these),
          λ s equal. subst (StartsAt cmp s) (sym these) (tied_back total p.0 s (subst (λ q. cmp q s ≡ Equal) (sym key) equal)),
        )

    pub piece : (k : K) → first_key (drop from l) ≡ Some k → (between cmp all (Some k) (first_key (drop (from + count) l)) ≡ part l from count) × ((s : K) → cmp k s ≡ Equal → StartsAt cmp s (part l from count))
    piece k first = at_first (drop from l) refl k first

pub has_first : {K V : Type 0} (l : List (K × V)) (n : ℕ) → n < length l → (k : K) × (first_key (drop n l) ≡ Some k)
has_first {K = K} {V = V} l n within = go (drop n l) (omega (arith, length-drop n l, within))
  where
    go : (d : List (K × V)) → 0 < length d → (k : K) × (first_key d ≡ Some k)
    go [] none = absurd (omega (arith, none))
    go (p ∷ d) more = (p.0, refl)

pub is_some : {K : Type 0} (o : Option (Bor K)) (k : K) → option_copied o ≡ Some k → IsSome o
is_some None k same = let z : None ≡ Some k = same in cc
is_some (Some b) k same = refl

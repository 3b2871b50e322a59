-- The pairs beside a key in an ascending list.
use Rattle.std.proofs.Common.{◌≡◌, ℕ, zero, suc, ◌-◌, ◌<◌, Bool, true, false, List, [], ◌∷◌, length, filter, Option, Some, None, refl, sym, ap, ◌∙◌, arith, slice_get}
use mathlib.Core.Bool.{true≢false}
use Rattle.std.specs.declared.cmp.Ordering.{Ordering}
use Rattle.std.specs.declared.cmp.Ordering.TheVariants.{Less, Equal, Greater}
use Rattle.std.specs.Ordering.{is_lt, is_gt}
use Rattle.std.specs.Cmp.{IsTotalOrder}
use Rattle.std.specs.List.{AllByRecursion}
use Rattle.std.specs.Map.{keys_of}
use Rattle.std.proofs.lemmas.Cmp.{tied_itself}
use Rattle.std.proofs.lemmas.Map.Keys.{sorted_head, sorted_tail}
use Rattle.bptree_keys.specs.Contents.{IsAscending, pairs_below, next, previous}
use Rattle.bptree_keys.specs.Neighbours.{IsNearest, IsLeastAbove, IsGreatestBelow, IsAfter, IsBefore}
use Rattle.bptree_keys.proofs.Ascending.{greater_turned}

-- a property of each key holds for the key of a pair that is read
read_of_all : {K V : Type 0} (P : K → Type 0) (l : List (K × V)) (i : ℕ) (pair : K × V) → AllByRecursion P (keys_of l) → slice_get l i ≡ Some pair → P pair.0
read_of_all P [] i pair all read = cc
read_of_all P (x ∷ l) zero pair all read = let e : x ≡ pair = cc in rw (← e) all.0
read_of_all P (x ∷ l) (suc i) pair all read = read_of_all P l i pair all.1 read

-- a property of the first pair and of each pair after it holds for each pair
each_more : {X : Type 0} (P : X → Type 0) (x : X) (l : List X) → P x → ((i : ℕ) (y : X) → slice_get l i ≡ Some y → P y) → (i : ℕ) (y : X) → slice_get (x ∷ l) i ≡ Some y → P y
each_more P x l first later zero y read = let e : x ≡ y = cc in rw (← e) first
each_more P x l first later (suc i) y read = later i y read

-- if `filter` keeps no pair, no pair that is read passes the test
none_by : {X : Type 0} (test : X → Bool) (y : X) (l : List X) → (filter test l ≡ [] → (i : ℕ) (x : X) → slice_get l i ≡ Some x → test x ≡ false) → (b : Bool) → test y ≡ b → filter test (y ∷ l) ≡ [] → (i : ℕ) (x : X) → slice_get (y ∷ l) i ≡ Some x → test x ≡ false
none_by test y l later true is none i x read = let kept : y ∷ filter test l ≡ [] = rw is at none in cc
none_by test y l later false is none i x read = each_more (λ z. test z ≡ false) y l is (later (rw is at none)) i x read

none_kept : {X : Type 0} (test : X → Bool) (l : List X) → filter test l ≡ [] → (i : ℕ) (x : X) → slice_get l i ≡ Some x → test x ≡ false
none_kept test [] none i x read = cc
none_kept test (y ∷ l) none i x read = none_by test y l (none_kept test l) (test y) refl none i x read

last_later : {X : Type 0} (x : X) (xs : List X) → 0 < length xs → slice_get (x ∷ xs) (length (x ∷ xs) - 1) ≡ slice_get xs (length xs - 1)
last_later x [] some = absurd (omega arith)
last_later x (y ∷ xs) some = let far : length (x ∷ y ∷ xs) - 1 ≡ suc (length (y ∷ xs) - 1) = omega arith in rw far refl

module _ {K V : Type 0} (cmp : K → K → Ordering) (total : IsTotalOrder cmp) (k : K) (x : K × V) (l : List (K × V)) (ascending : IsAscending cmp (x ∷ l)) where
  -- no key is less than the first key
  not_below_first : (i : ℕ) (other : K × V) → slice_get (x ∷ l) i ≡ Some other → is_lt (cmp other.0 x.0) ≡ false
  not_below_first = each_more (λ other. is_lt (cmp other.0 x.0) ≡ false) x l (ap is_lt (tied_itself total x.0)) (λ i other read. ap is_lt (greater_turned cmp total x.0 other.0 (read_of_all (λ key. cmp x.0 key ≡ Less) l i other (sorted_head cmp x.0 (keys_of l) ascending) read)))

  -- a first pair whose key is greater than k is the one with the least greater key
  first_above : cmp x.0 k ≡ Greater → IsLeastAbove cmp (x ∷ l) k x
  first_above above = record { index = 0; here = refl; beside = above; nearest = λ i other read up. not_below_first i other read }

  -- the nearest pair of the rest is the nearest pair of the list, if the first pair is not nearer
  behind : {side : Ordering} {is_nearer : Ordering → Bool} {pair : K × V} → IsNearest cmp l k side is_nearer pair → (cmp x.0 k ≡ side → is_nearer (cmp x.0 pair.0) ≡ false) → IsNearest cmp (x ∷ l) k side is_nearer pair
  behind {side} {is_nearer} {pair} at first = record { index = suc at.index; here = at.here; beside = at.beside; nearest = each_more (λ other. cmp other.0 k ≡ side → is_nearer (cmp other.0 pair.0) ≡ false) x l first at.nearest }

  -- a first pair whose key is not greater than k does not change the pair after k
  later_above : is_gt (cmp x.0 k) ≡ false → (o : Option (K × V)) → IsAfter cmp l k o → IsAfter cmp (x ∷ l) k o
  later_above not_above None none = each_more (λ other. is_gt (cmp other.0 k) ≡ false) x l not_above none
  later_above not_above (Some pair) at = behind at (λ up. absurd (true≢false (sym (ap is_gt up) ∙ not_above)))

  above_by : (o : Ordering) → cmp x.0 k ≡ o → IsAfter cmp l k (next cmp l k) → IsAfter cmp (x ∷ l) k (next cmp (x ∷ l) k)
  above_by Less is later = rw is (later_above (ap is_gt is) (next cmp l k) later)
  above_by Equal is later = rw is (later_above (ap is_gt is) (next cmp l k) later)
  above_by Greater is later = rw is (first_above is)

  -- a first pair whose key is not less than k does not change the pair before k
  later_below : is_lt (cmp x.0 k) ≡ false → (o : Option (K × V)) → IsBefore cmp l k o → IsBefore cmp (x ∷ l) k o
  later_below not_below None none = each_more (λ other. is_lt (cmp other.0 k) ≡ false) x l not_below none
  later_below not_below (Some pair) at = behind at (λ down. absurd (true≢false (sym (ap is_lt down) ∙ not_below)))

  -- a first pair whose key is less than k is the one with the greatest smaller key, if no other key is smaller
  first_below : cmp x.0 k ≡ Less → pairs_below cmp l k ≡ [] → IsGreatestBelow cmp (x ∷ l) k x
  first_below below none = record {
    index = 0;
    here = refl;
    beside = below;
    nearest = each_more (λ other. cmp other.0 k ≡ Less → is_gt (cmp other.0 x.0) ≡ false) x l (λ down. ap is_gt (tied_itself total x.0)) (λ i other read down. absurd (true≢false (sym (ap is_lt down) ∙ none_kept (λ (p : K × V). is_lt (cmp p.0 k)) l none i other read)));
  }

  -- the pair before k in the rest, if there is one, is the pair before k in the list
  first_passed : (o : Option (K × V)) → IsBefore cmp l k o → (none : o ≡ None → ⊥) → IsBefore cmp (x ∷ l) k o
  first_passed None before some = absurd (some refl)
  first_passed (Some pair) at some =
      behind at (λ down. ap is_gt (read_of_all (λ key. cmp x.0 key ≡ Less) l at.index pair (sorted_head cmp x.0 (keys_of l) ascending) at.here))

  some_last : (p : K × V) (ps : List (K × V)) → slice_get (p ∷ ps) (length (p ∷ ps) - 1) ≡ None → ⊥
  some_last p [] none = cc
  some_last p (q ∷ ps) none = some_last q ps (sym (last_later p (q ∷ ps) (omega arith)) ∙ none)

  below_last : cmp x.0 k ≡ Less → (smaller : List (K × V)) → pairs_below cmp l k ≡ smaller → IsBefore cmp l k (slice_get smaller (length smaller - 1)) → IsBefore cmp (x ∷ l) k (slice_get (x ∷ smaller) (length (x ∷ smaller) - 1))
  below_last below [] none later = first_below below none
  below_last below (p ∷ ps) is later = rw (last_later x (p ∷ ps) (omega arith)) (first_passed (slice_get (p ∷ ps) (length (p ∷ ps) - 1)) later (some_last p ps))

  below_by : (o : Ordering) → cmp x.0 k ≡ o → IsBefore cmp l k (previous cmp l k) → IsBefore cmp (x ∷ l) k (previous cmp (x ∷ l) k)
  below_by Less is later = rw is (below_last is (pairs_below cmp l k) refl later)
  below_by Equal is later = rw is (later_below (ap is_lt is) (previous cmp l k) later)
  below_by Greater is later = rw is (later_below (ap is_lt is) (previous cmp l k) later)

module _ {K V : Type 0} (cmp : K → K → Ordering) (total : IsTotalOrder cmp) (k : K) where
  pub next_is_least : (l : List (K × V)) → IsAscending cmp l → IsAfter cmp l k (next cmp l k)
  next_is_least [] ascending = λ i other read. cc
  next_is_least (x ∷ l) ascending = above_by cmp total k x l ascending (cmp x.0 k) refl (next_is_least l (sorted_tail cmp x.0 (keys_of l) ascending))

  pub previous_is_greatest : (l : List (K × V)) → IsAscending cmp l → IsBefore cmp l k (previous cmp l k)
  previous_is_greatest [] ascending = λ i other read. cc
  previous_is_greatest (x ∷ l) ascending = below_by cmp total k x l ascending (cmp x.0 k) refl (previous_is_greatest l (sorted_tail cmp x.0 (keys_of l) ascending))

-- The pairs before a key, from a key on, up to a key and between two keys, over the shards.
use Rattle.std.proofs.Common.{◌≡◌, ℕ, zero, suc, ◌+◌, ◌-◌, ◌<◌, ◌≤◌, Bool, true, false, not, List, [], ◌∷◌, ◌++◌, Option, Some, None, filter, length, take, drop, reverse, slice_get, refl, sym, ap, subst, cond, ◌∙◌, arith}
use Rattle.std.specs.Prelude.{◌&&◌}
use Rattle.std.specs.declared.cmp.Ordering.{Ordering}
use Rattle.std.specs.declared.cmp.Ordering.TheVariants.{Less, Equal, Greater}
use Rattle.std.specs.Ordering.{is_lt, is_gt, ordering_reverse}
use Rattle.std.specs.List.{AllByRecursion, flat_map}
use Rattle.std.specs.Option.{option_or}
use Rattle.std.specs.Cmp.{IsTotalOrder}
use Rattle.std.proofs.lemmas.Cmp.{upto}
use Rattle.std.proofs.lemmas.List.{append-nil, reverse-append, take-append-drop, take_at, drop_at, drop-drop, drop_all}
use Rattle.std.proofs.lemmas.List.Elements.{filter-append}
use Rattle.std.proofs.lemmas.List.Concat.{flat_map-append}
use Rattle.bptree_keys.specs.Contents.{pairs_below, next, previous, last_member}
use Rattle.bptree_keys.specs.Pieces.{flatten, piece_at, start_of}
use Rattle.bptree_keys.specs.Indexes.{AllCompare}
use Rattle.bptree_keys.specs.Ranges.{between, falls_short, stays_below, part}
use Rattle.bptree_keys.proofs.Ascending.{less_turned}
use Rattle.bptree_keys.proofs.Parted.{filter_all, filter_none}
use Rattle.bptree_keys.proofs.PieceLemmas.{flatten-cut, flatten-append, AllByRecursion-append, AllByRecursion-left, AllByRecursion-right, AllByRecursion-weaker}
use Rattle.bptree_shard_routing.specs.Shards.{AreShards, LieBetween, NoneBelow, shard_of, shard_below, first_shard, last_shard, from_key, back_from}
use Rattle.bptree_shard_routing.specs.Lengths.{lengths_of, IsFirstFull, IsLastFull, first_in, last_in}
use Rattle.bptree_shard_routing.proofs.LengthLemmas.{last_of_two, first_from, last_before, take_two}
use Rattle.bptree_shard_routing.proofs.ShardLemmas.{Routed, routed, next_routed}

-- Cutting the whole at the start of a shard.
module _ {X : Type 0} where
  cut_at : (shards : List (List X)) (i : ℕ) → flatten shards ≡ flatten (take i shards) ++ flatten (drop i shards)
  cut_at shards i = ap flatten (sym (take-append-drop i shards)) ∙ flatten-append (take i shards) (drop i shards)

  pub take_start : (shards : List (List X)) (i : ℕ) → take (start_of shards i) (flatten shards) ≡ flatten (take i shards)
  take_start shards i = ap (take (start_of shards i)) (cut_at shards i) ∙ take_at (flatten (take i shards)) (flatten (drop i shards)) (start_of shards i) refl

  pub drop_start : (shards : List (List X)) (i : ℕ) → drop (start_of shards i) (flatten shards) ≡ flatten (drop i shards)
  drop_start shards i = ap (drop (start_of shards i)) (cut_at shards i) ∙ drop_at (flatten (take i shards)) (flatten (drop i shards)) (start_of shards i) refl

  -- What holds of each member holds of a whole list.
  AllByRecursion-all : (P : X → Type 0) → ((x : X) → P x) → (xs : List X) → AllByRecursion P xs
  AllByRecursion-all P each [] = tt
  AllByRecursion-all P each (x ∷ xs) = (each x, AllByRecursion-all P each xs)

-- ---- the last shard that may have a smaller key

lt_turned : (o : Ordering) → is_lt (ordering_reverse o) ≡ is_gt o
lt_turned Less = refl
lt_turned Equal = refl
lt_turned Greater = refl

pub gt_turned : (o : Ordering) → is_gt (ordering_reverse o) ≡ is_lt o
gt_turned Less = refl
gt_turned Equal = refl
gt_turned Greater = refl

module _ {K : Type 0} (cmp : K → K → Ordering) (total : IsTotalOrder cmp) where
  -- If a key is not below a bound, and k is not above the bound, the key is not below k.
  none_below : (bound k key : K) → is_lt (cmp key bound) ≡ false → is_gt (cmp k bound) ≡ false → is_lt (cmp key k) ≡ false
  none_below bound k key high low =
      let up : is_gt (cmp bound key) ≡ false = ap is_gt (total.antisymm bound key) ∙ gt_turned (cmp key bound) ∙ high in
      ap is_lt (total.antisymm key k) ∙ lt_turned (cmp k key) ∙ upto total k bound key low up

  greater_is : (o : Ordering) → is_gt o ≡ true → o ≡ Greater
  greater_is Less h = absurd cc
  greater_is Equal h = absurd cc
  greater_is Greater h = refl

-- All keys of the earlier shards are below k, and no key of the later shards is.
pub record RoutedBelow {K V : Type 0} (cmp : K → K → Ordering) (shards : List (List (K × V))) (i : ℕ) (k : K) : Type 0 where
  pub in_range : i < length shards
  pub smaller : AllCompare cmp k Less (flatten (take i shards))
  pub others : NoneBelow cmp k (flatten (drop (suc i) shards))

module _ {K V : Type 0} (cmp : K → K → Ordering) (total : IsTotalOrder cmp) (k : K) where
  below_step : (bound : K) (bounds : List K) (piece : List (K × V)) (pieces : List (List (K × V))) (b : Bool) → is_gt (cmp k bound) ≡ b
      → AllCompare cmp bound Less piece → NoneBelow cmp bound (flatten pieces) → RoutedBelow cmp pieces (shard_below cmp bounds k) k
      → RoutedBelow cmp (piece ∷ pieces) (cond b (suc (shard_below cmp bounds k)) zero) k
  below_step bound bounds piece pieces true is low none rest = record {
    in_range = let h = rest.in_range in omega arith;
    smaller =
        let less : cmp bound k ≡ Less = less_turned cmp total k bound (greater_is cmp total (cmp k bound) is) in
        AllByRecursion-append (λ pair. cmp pair.0 k ≡ Less) piece (flatten (take (shard_below cmp bounds k) pieces))
        (AllByRecursion-weaker (λ pair. cmp pair.0 bound ≡ Less) (λ pair. cmp pair.0 k ≡ Less) (λ pair below. total.trans pair.0 bound k below less) piece low) rest.smaller;
    others = rest.others;
  }
  below_step bound bounds piece pieces false is low none rest = record {
    in_range = omega arith;
    smaller = tt;
    others = AllByRecursion-weaker (λ pair. is_lt (cmp pair.0 bound) ≡ false) (λ pair. is_lt (cmp pair.0 k) ≡ false) (λ pair high. none_below cmp total bound k pair.0 high is) (flatten pieces) none;
  }

  pub routed_below : (bounds : List K) (shards : List (List (K × V))) → LieBetween cmp bounds shards → RoutedBelow cmp shards (shard_below cmp bounds k) k
  routed_below bounds [] lie = absurd lie
  routed_below [] (piece ∷ pieces) lie = subst (λ rest. RoutedBelow cmp (piece ∷ rest) zero k) (sym lie) (record { in_range = omega arith; smaller = tt; others = tt })
  routed_below (bound ∷ bounds) (piece ∷ pieces) lie = below_step bound bounds piece pieces (is_gt (cmp k bound)) refl lie.0 lie.1 (routed_below bounds pieces lie.2)

  -- Filtering with a test that fails at each pair leaves the empty list.
  none_pass : (test : K × V → Bool) (l : List (K × V)) → AllByRecursion (λ pair. test pair ≡ false) l → filter test l ≡ []
  none_pass test [] all = refl
  none_pass test (p ∷ l) all = rw all.0 (none_pass test l all.1)

  all_pass : (test : K × V → Bool) (l : List (K × V)) → AllByRecursion (λ pair. test pair ≡ true) l → filter test l ≡ l
  all_pass test [] all = refl
  all_pass test (p ∷ l) all = rw all.0 (ap (λ m. p ∷ m) (all_pass test l all.1))

module _ {K V : Type 0} (cmp : K → K → Ordering) (total : IsTotalOrder cmp) (bounds : List K) (shards : List (List (K × V))) (k : K) (are : AreShards cmp bounds shards) where
  -- ---- the pair before a key, and the one after it

  module _ where
    abbrev low : ℕ
    low = shard_below cmp bounds k

    abbrev there : RoutedBelow cmp shards low k
    there = routed_below cmp total k bounds shards are.between

    below_whole : pairs_below cmp (flatten shards) k ≡ flatten (take low shards) ++ pairs_below cmp (piece_at shards low) k
    below_whole =
        ap (λ l. pairs_below cmp l k) (flatten-cut shards low there.in_range)
        ∙ filter-append (λ pair. is_lt (cmp pair.0 k)) (flatten (take low shards)) (piece_at shards low ++ flatten (drop (suc low) shards))
        ∙ ap (λ l. l ++ pairs_below cmp (piece_at shards low ++ flatten (drop (suc low) shards)) k) (filter_all cmp k is_lt Less (flatten (take low shards)) refl there.smaller)
        ∙ ap (λ l. flatten (take low shards) ++ l) (filter-append (λ pair. is_lt (cmp pair.0 k)) (piece_at shards low) (flatten (drop (suc low) shards))
        ∙ ap (λ l. pairs_below cmp (piece_at shards low) k ++ l) (none_pass cmp total k (λ pair. is_lt (cmp pair.0 k)) (flatten (drop (suc low) shards)) there.others)
        ∙ append-nil (pairs_below cmp (piece_at shards low) k))

    pub previous_lower : previous cmp (flatten shards) k ≡ option_or (previous cmp (piece_at shards low) k) (last_member (flatten (take low shards)))
    previous_lower = ap last_member below_whole ∙ last_of_two (flatten (take low shards)) (pairs_below cmp (piece_at shards low) k)

    pub previous_routed : (found : Option ℕ) → IsLastFull (lengths_of shards) low found → previous cmp (flatten shards) k ≡ option_or (previous cmp (piece_at shards low) k) (last_in shards found)
    previous_routed found is =
        previous_lower ∙ ap (λ o. option_or (previous cmp (piece_at shards low) k) o) (last_before shards low found is)

  abbrev at : ℕ
  at = shard_of cmp bounds k

  abbrev here : Routed cmp shards at k
  here = routed cmp total k bounds shards are.between

  pub next_found : (found : Option ℕ) → IsFirstFull (lengths_of shards) (at + 1) (length shards) found → next cmp (flatten shards) k ≡ option_or (next cmp (piece_at shards at) k) (first_in shards found)
  next_found found is =
      let one : at + 1 ≡ suc at = omega arith in
      next_routed cmp total bounds shards k are
      ∙ ap (λ o. option_or (next cmp (piece_at shards at) k) o) (ap (λ n. slice_get (flatten (drop n shards)) 0) (sym one) ∙ first_from shards (at + 1) found is)

  -- ---- from a key on, and back from it

  abbrev ahead : List (K × V)
  ahead = flatten (take at shards)

  abbrev after : List (K × V)
  after = flatten (drop (suc at) shards)

  from_whole : from_key cmp (flatten shards) k ≡ from_key cmp (piece_at shards at) k ++ after
  from_whole =
      let test = λ (pair : K × V). not (falls_short cmp (Some k) pair.0) && stays_below cmp None pair.0 in
      let none : filter test ahead ≡ [] = none_pass cmp total k test ahead (AllByRecursion-weaker (λ pair. cmp pair.0 k ≡ Less) (λ pair. test pair ≡ false) (λ pair less. rw less refl) ahead here.smaller) in
      let all : filter test after ≡ after = all_pass cmp total k test after (AllByRecursion-weaker (λ pair. cmp pair.0 k ≡ Greater) (λ pair. test pair ≡ true) (λ pair more. rw more refl) after here.greater) in
      ap (filter test) (flatten-cut shards at here.in_range) ∙ filter-append test ahead (piece_at shards at ++ after) ∙ ap (λ l. l ++ filter test (piece_at shards at ++ after)) none
      ∙ filter-append test (piece_at shards at) after ∙ ap (λ l. filter test (piece_at shards at) ++ l) all

  back_whole : back_from cmp (flatten shards) k ≡ back_from cmp (piece_at shards at) k ++ reverse ahead
  back_whole =
      let test = λ (pair : K × V). not (is_gt (cmp pair.0 k)) in
      let all : filter test ahead ≡ ahead = filter_all cmp k (λ o. not (is_gt o)) Less ahead refl here.smaller in
      let none : filter test after ≡ [] = filter_none cmp k (λ o. not (is_gt o)) Greater after refl here.greater in
      let kept : filter test (flatten shards) ≡ ahead ++ filter test (piece_at shards at) =
      ap (filter test) (flatten-cut shards at here.in_range) ∙ filter-append test ahead (piece_at shards at ++ after) ∙ ap (λ l. l ++ filter test (piece_at shards at ++ after)) all
      ∙ ap (λ l. ahead ++ l) (filter-append test (piece_at shards at) after ∙ ap (λ l. filter test (piece_at shards at) ++ l) none ∙ append-nil (filter test (piece_at shards at))) in
      ap reverse kept ∙ reverse-append ahead (filter test (piece_at shards at))

  pub from_routed : (n : ℕ) → take n (from_key cmp (flatten shards) k)
      ≡ take n (from_key cmp (piece_at shards at) k) ++ part (flatten shards) (start_of shards (at + 1)) (n - length (from_key cmp (piece_at shards at) k))
  from_routed n =
      let one : at + 1 ≡ suc at = omega arith in
      ap (take n) from_whole ∙ take_two n (from_key cmp (piece_at shards at) k) after
      ∙ ap (λ l. take n (from_key cmp (piece_at shards at) k) ++ take (n - length (from_key cmp (piece_at shards at) k)) l) (ap (λ i. flatten (drop i shards)) (sym one) ∙ sym (drop_start shards (at + 1)))

  pub back_routed : (n : ℕ) → take n (back_from cmp (flatten shards) k)
      ≡ take n (back_from cmp (piece_at shards at) k) ++ take (n - length (back_from cmp (piece_at shards at) k)) (reverse (take (start_of shards at) (flatten shards)))
  back_routed n =
      ap (take n) back_whole ∙ take_two n (back_from cmp (piece_at shards at) k) (reverse ahead)
      ∙ ap (λ l. take n (back_from cmp (piece_at shards at) k) ++ take (n - length (back_from cmp (piece_at shards at) k)) (reverse l)) (sym (take_start shards at))

-- ---- between two keys

module _ {X A : Type 0} (f : A → List X) where
  right_nil : (xs ys : List X) → xs ++ ys ≡ [] → ys ≡ []
  right_nil [] ys none = none
  right_nil (x ∷ xs) ys none = absurd cc

  suffix_none : (l : List A) (n : ℕ) → flat_map f l ≡ [] → flat_map f (drop n l) ≡ []
  suffix_none l zero none = none
  suffix_none [] (suc n) none = refl
  suffix_none (x ∷ l) (suc n) none = suffix_none l n (right_nil (f x) (flat_map f l) none)

  -- Leaving out members at both ends that contribute nothing does not change the result.
  middle : (l : List A) (first behind : ℕ) → flat_map f (take first l) ≡ [] → flat_map f (drop behind l) ≡ [] → flat_map f l ≡ flat_map f (part l first (behind - first))
  middle l first behind before after =
      let k = behind - first in
      let far : behind + (first + k - behind) ≡ first + k = omega arith in
      let late : flat_map f (drop k (drop first l)) ≡ [] =
      ap (flat_map f) (drop-drop k first l ∙ ap (λ n. drop n l) (sym far) ∙ sym (drop-drop (first + k - behind) behind l)) ∙ suffix_none (drop behind l) (first + k - behind) after in
      ap (flat_map f) (sym (take-append-drop first l)) ∙ flat_map-append f (take first l) (drop first l) ∙ ap (λ m. m ++ flat_map f (drop first l)) before
      ∙ ap (flat_map f) (sym (take-append-drop k (drop first l))) ∙ flat_map-append f (take k (drop first l)) (drop k (drop first l))
      ∙ ap (λ m. flat_map f (take k (drop first l)) ++ m) late ∙ append-nil (flat_map f (take k (drop first l)))

module _ {X : Type 0} (P : X → Type 0) where
  all_piece : (pieces : List (List X)) (i : ℕ) → AllByRecursion P (flatten pieces) → AllByRecursion P (piece_at pieces i)
  all_piece [] i all = tt
  all_piece (p ∷ ps) zero all = AllByRecursion-left P p (flatten ps) all
  all_piece (p ∷ ps) (suc i) all = all_piece ps i (AllByRecursion-right P p (flatten ps) all)

  all_later : (pieces : List (List X)) (from i : ℕ) → from ≤ i → AllByRecursion P (flatten (drop from pieces)) → AllByRecursion P (piece_at pieces i)
  all_later [] from i low all = tt
  all_later (p ∷ ps) zero i low all = all_piece (p ∷ ps) i all
  all_later (p ∷ ps) (suc from) zero low all = absurd (omega arith)
  all_later (p ∷ ps) (suc from) (suc i) low all = let le : from ≤ i = omega arith in all_later ps from i le all

  all_earlier : (pieces : List (List X)) (to i : ℕ) → i < to → AllByRecursion P (flatten (take to pieces)) → AllByRecursion P (piece_at pieces i)
  all_earlier [] to i high all = tt
  all_earlier (p ∷ ps) zero i high all = absurd (omega arith)
  all_earlier (p ∷ ps) (suc to) zero high all = AllByRecursion-left P p (flatten (take to ps)) all
  all_earlier (p ∷ ps) (suc to) (suc i) high all = let lt : i < to = omega arith in all_earlier ps to i lt (AllByRecursion-right P p (flatten (take to ps)) all)

module _ {K V : Type 0} (cmp : K → K → Ordering) (total : IsTotalOrder cmp) (bounds : List K) (shards : List (List (K × V))) (are : AreShards cmp bounds shards) where
  pub shards_count : (bs : List K) (ps : List (List (K × V))) → LieBetween cmp bs ps → length ps ≡ length bs + 1
  shards_count bs [] lie = absurd lie
  shards_count [] (p ∷ ps) lie = ap (λ l. length (p ∷ l)) lie
  shards_count (b ∷ bs) (p ∷ ps) lie = omega (arith, shards_count bs ps lie.2)

  module _ (lo hi : Option K) where
    abbrev kept : K × V → Bool
    kept pair = not (falls_short cmp lo pair.0) && stays_below cmp hi pair.0

    abbrev of_one : List (K × V) → List (K × V)
    of_one s = between cmp s lo hi

    spread : (ps : List (List (K × V))) → between cmp (flatten ps) lo hi ≡ flat_map of_one ps
    spread [] = refl
    spread (p ∷ ps) = filter-append kept p (flatten ps) ∙ ap (λ l. of_one p ++ l) (spread ps)

  -- The shards before the first shard of a range have no pair in it, nor have those behind the
  -- last.
  none_early : (lo hi : Option K) → between cmp (flatten (take (first_shard cmp bounds lo) shards)) lo hi ≡ []
  none_early None hi = refl
  none_early (Some lo) hi =
      let l = flatten (take (shard_of cmp bounds lo) shards) in
      none_pass cmp total lo (kept (Some lo) hi) l
      (AllByRecursion-weaker (λ pair. cmp pair.0 lo ≡ Less) (λ pair. kept (Some lo) hi pair ≡ false) (λ pair less. rw less refl) l (routed cmp total lo bounds shards are.between).smaller)

  and_false : (b : Bool) → b && false ≡ false
  and_false true = refl
  and_false false = refl

  none_late : (lo hi : Option K) → between cmp (flatten (drop (last_shard cmp bounds hi + 1) shards)) lo hi ≡ []
  none_late lo None = let short : length shards ≤ length bounds + 1 = omega (arith, shards_count bounds shards are.between) in
      ap (λ l. between cmp (flatten l) lo None) (drop_all (length bounds + 1) shards short)
  none_late lo (Some hi) =
      let one : shard_below cmp bounds hi + 1 ≡ suc (shard_below cmp bounds hi) = omega arith in
      let l = flatten (drop (suc (shard_below cmp bounds hi)) shards) in
      ap (λ n. between cmp (flatten (drop n shards)) lo (Some hi)) one
      ∙ none_pass cmp total hi (kept lo (Some hi)) l
      (AllByRecursion-weaker (λ pair. is_lt (cmp pair.0 hi) ≡ false) (λ pair. kept lo (Some hi) pair ≡ false) (λ pair high. rw high (and_false (not (falls_short cmp lo pair.0)))) l
      (routed_below cmp total hi bounds shards are.between).others)

  pub between_routed : (lo hi : Option K) → between cmp (flatten shards) lo hi
      ≡ flat_map (λ s. between cmp s lo hi) (part shards (first_shard cmp bounds lo) (last_shard cmp bounds hi + 1 - first_shard cmp bounds lo))
  between_routed lo hi =
      spread lo hi shards
      ∙ middle (of_one lo hi) shards (first_shard cmp bounds lo) (last_shard cmp bounds hi + 1)
      (sym (spread lo hi (take (first_shard cmp bounds lo) shards)) ∙ none_early lo hi)
      (sym (spread lo hi (drop (last_shard cmp bounds hi + 1) shards)) ∙ none_late lo hi)

  -- Each pair of a shard between the first and the last one is in the range.
  not_short : (lo : Option K) (i : ℕ) → first_shard cmp bounds lo < i → AllByRecursion (λ pair. falls_short cmp lo pair.0 ≡ false) (piece_at shards i)
  not_short None i h = AllByRecursion-all (λ pair. false ≡ false) (λ pair. refl) (piece_at shards i)
  not_short (Some lo) i h =
      let le : suc (shard_of cmp bounds lo) ≤ i = omega arith in
      AllByRecursion-weaker (λ pair. cmp pair.0 lo ≡ Greater) (λ pair. is_lt (cmp pair.0 lo) ≡ false) (λ pair more. ap is_lt more) (piece_at shards i)
      (all_later (λ pair. cmp pair.0 lo ≡ Greater) shards (suc (shard_of cmp bounds lo)) i le (routed cmp total lo bounds shards are.between).greater)

  stay_below : (hi : Option K) (i : ℕ) → i < last_shard cmp bounds hi → AllByRecursion (λ pair. stays_below cmp hi pair.0 ≡ true) (piece_at shards i)
  stay_below None i h = AllByRecursion-all (λ pair. true ≡ true) (λ pair. refl) (piece_at shards i)
  stay_below (Some hi) i h =
      AllByRecursion-weaker (λ pair. cmp pair.0 hi ≡ Less) (λ pair. is_lt (cmp pair.0 hi) ≡ true) (λ pair less. ap is_lt less) (piece_at shards i)
      (all_earlier (λ pair. cmp pair.0 hi ≡ Less) shards (shard_below cmp bounds hi) i h (routed_below cmp total hi bounds shards are.between).smaller)

  both_kept : (lo hi : Option K) (l : List (K × V)) → AllByRecursion (λ pair. falls_short cmp lo pair.0 ≡ false) l → AllByRecursion (λ pair. stays_below cmp hi pair.0 ≡ true) l → between cmp l lo hi ≡ l
  both_kept lo hi [] long low = refl
  both_kept lo hi (p ∷ l) long low = rw (long.0, low.0) (ap (λ m. p ∷ m) (both_kept lo hi l long.1 low.1))

  pub inner_whole : (lo hi : Option K) (i : ℕ) → first_shard cmp bounds lo < i → i < last_shard cmp bounds hi → between cmp (piece_at shards i) lo hi ≡ piece_at shards i
  inner_whole lo hi i from to = both_kept lo hi (piece_at shards i) (not_short lo i from) (stay_below hi i to)

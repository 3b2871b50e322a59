-- The start and the end of the pairs between two bounds.
use Rattle.std.proofs.Common.{◌≡◌, ℕ, suc, ◌+◌, ◌-◌, ◌<◌, ◌≤◌, Bool, true, false, not, ◌&&◌, List, [], ◌∷◌, ◌++◌, length, filter, take, drop, refl, sym, ap, ◌∙◌, arith, Result, Ok, Err, Option, Some, None, get_or, length-append}
use mathlib.Core.Bool.{true≢false}
use Rattle.std.specs.declared.cmp.Ordering.{Ordering}
use Rattle.std.specs.declared.cmp.Ordering.TheVariants.{Less, Equal, Greater}
use Rattle.std.specs.declared.ops.Bound.{Bound}
use Rattle.std.specs.declared.ops.Bound.TheVariants.{Included, Excluded, Unbounded}
use Rattle.std.specs.Cmp.{IsTotalOrder}
use Rattle.std.specs.Ordering.{is_gt, is_lt}
use Rattle.std.proofs.lemmas.List.Elements.{filter-append}
use Rattle.std.proofs.lemmas.List.{append-nil, length-take-le}
use Rattle.bptree_arguments.specs.GroupResults.{is_before}
use Rattle.bptree_arguments.proofs.GroupOrderLemmas.{before_below, less_from}
use Rattle.bptree_keys.specs.Contents.{IsAscending}
use Rattle.bptree_keys.specs.Indexes.{IsKeyGap, IsHit, IsIndexOf}
use Rattle.bptree_keys.specs.Ranges.{between, part}
use Rattle.bptree_keys.specs.declared.node_id.LeafNodeId.{LeafNodeId}
use Rattle.bptree_keys.specs.declared.node_id.Position.{Position}
use Rattle.bptree_keys.specs.declared.node_id.NodeId.{NodeId}
use Rattle.bptree_keys.proofs.Ascending.{less_turned}
use Rattle.bptree_keys.proofs.Found.{gap_at, hit_at}
use Rattle.bptree_keys.proofs.Parted.{filter_all, filter_none}
use Rattle.bptree_nodes.specs.Inner.{Inner}
use Rattle.bptree_nodes.specs.Leaf.{Leaf}
use Rattle.bptree_nodes.specs.Slot.{Slots}
use Rattle.bptree_invariant.specs.Leaves.{pairs_of}
use Rattle.bptree_invariant.specs.Shape.{leaf_pairs, pairs_at, IsWellShaped}
use Rattle.bptree_invariant.proofs.Between.{cut, none_pass, each_of, all_pass}
use Rattle.bptree_invariant.proofs.Ordered.{by_cases, less_then_up}
use Rattle.bptree_invariant.proofs.Spot.{parts_of}
use Rattle.bptree_search.proofs.Beside.{index_ascends}
use Rattle.bptree_search.specs.Neighbours.{beside, IsIndexAt, leaf_of_result, position_beside, slot_of_result}
use Rattle.bptree_ranges.specs.Bounds.{between_bounds, bound_key, end_bound, is_before_bound, is_before_start, is_upto_end, may_hold, start_bound}
use Rattle.bptree_ranges.specs.Ranges.{start, index_on, IsIndexOn}
use Rattle.bptree_ranges.proofs.Bordered.{falls_all}
use Rattle.bptree_ranges.proofs.Ranged.{contents_ascend, filter_fewer, start_is}

not_above : (r : Ordering) → not (is_gt r) ≡ true → is_gt r ≡ false
not_above Less e = refl
not_above Equal e = refl
not_above Greater e = absurd (true≢false (sym e))

below_not_above : (r : Ordering) → is_lt r ≡ true → is_gt r ≡ false
below_not_above Less e = refl
below_not_above Equal e = absurd (true≢false (sym e))
below_not_above Greater e = absurd (true≢false (sym e))

below_upto : (r : Ordering) → is_lt r ≡ true → not (is_gt r) ≡ true
below_upto r e = rw (below_not_above r e) refl

-- one test fails whenever the other passes
none_by : (s u : Bool) → (u ≡ true → s ≡ true) → (not s && u) ≡ false
none_by true u h = refl
none_by false true h = absurd (true≢false (sym (h refl)))
none_by false false h = refl

module _ {K : Type 0} {cmp : K → K → Ordering} (total : IsTotalOrder cmp) where
  -- a key that is not above one before the start is before the start too; likewise for the end
  start_falls : (lo : Bound K) (x y : K) → is_gt (cmp x y) ≡ false → is_before_start cmp lo y ≡ true → is_before_start cmp lo x ≡ true
  start_falls (Included b) x y up e = before_below total b false x y up e
  start_falls (Excluded b) x y up e = before_below total b true x y up e
  start_falls Unbounded x y up e = absurd (true≢false (sym e))

  end_falls : (hi : Bound K) (x y : K) → is_gt (cmp x y) ≡ false → is_upto_end cmp hi y ≡ true → is_upto_end cmp hi x ≡ true
  end_falls (Included b) x y up e = before_below total b true x y up e
  end_falls (Excluded b) x y up e = before_below total b false x y up e
  end_falls Unbounded x y up e = refl

  between_bounds_is : {V : Type 0} (l : List (K × V)) (lo hi : Bound K) (i j : ℕ) → IsAscending cmp l → i ≡ length (filter (λ (p : K × V). is_before_start cmp lo p.0) l) → j ≡ length (filter (λ (p : K × V). is_upto_end cmp hi p.0) l) → between_bounds cmp l lo hi ≡ part l i (j - i)
  between_bounds_is {V} l lo hi i j ascending e f =
      rw (e, f) (cut (λ (p : K × V). is_before_start cmp lo p.0) (λ (p : K × V). is_upto_end cmp hi p.0) l (falls_all total (is_before_start cmp lo) (start_falls lo) l ascending) (falls_all total (is_upto_end cmp hi) (end_falls hi) l ascending))

  -- if some key can be between two bounds, a key before the start is not after the end
  held : (lo hi : Bound K) → may_hold cmp lo hi ≡ true → (k : K) → is_before_start cmp lo k ≡ true → is_upto_end cmp hi k ≡ true
  held Unbounded hi e k below = absurd (true≢false (sym below))
  held (Included a) Unbounded e k below = refl
  held (Included a) (Included b) e k below = before_below total b true k a (below_not_above (cmp k a) below) e
  held (Included a) (Excluded b) e k below = before_below total b false k a (below_not_above (cmp k a) below) e
  held (Excluded a) Unbounded e k below = refl
  held (Excluded a) (Included b) e k below = before_below total b true k a (not_above (cmp k a) below) (below_upto (cmp a b) e)
  held (Excluded a) (Excluded b) e k below = before_below total b false k a (not_above (cmp k a) below) e

  -- if a key is not below another, that one is not above it
  turned : (a b : K) → is_lt (cmp a b) ≡ false → not (is_gt (cmp b a)) ≡ true
  turned a b e =
      by_cases (cmp b a) (λ f. ap (λ r. not (is_gt r)) f) (λ f. ap (λ r. not (is_gt r)) f)
      (λ f. absurd (true≢false (sym (ap is_lt (less_turned cmp total b a f)) ∙ e)))

  turned_above : (a b : K) → not (is_gt (cmp a b)) ≡ false → is_lt (cmp b a) ≡ true
  turned_above a b e =
      by_cases (cmp a b) (λ f. absurd (true≢false (sym (ap (λ r. not (is_gt r)) f) ∙ e))) (λ f. absurd (true≢false (sym (ap (λ r. not (is_gt r)) f) ∙ e)))
      (λ f. ap is_lt (less_turned cmp total a b f))

  -- if no key can be between two bounds, a key that is not after the end is before the start
  empty : (lo hi : Bound K) → may_hold cmp lo hi ≡ false → (k : K) → is_upto_end cmp hi k ≡ true → is_before_start cmp lo k ≡ true
  empty Unbounded hi e k upto = absurd (true≢false e)
  empty (Included a) Unbounded e k upto = absurd (true≢false e)
  empty (Included a) (Included b) e k upto = before_below total a false k b (not_above (cmp k b) upto) (turned_above a b e)
  empty (Included a) (Excluded b) e k upto = ap is_lt (less_then_up total k b a (less_from (cmp k b) upto) e)
  empty (Excluded a) Unbounded e k upto = absurd (true≢false e)
  empty (Excluded a) (Included b) e k upto = before_below total a true k b (not_above (cmp k b) upto) (turned a b e)
  empty (Excluded a) (Excluded b) e k upto = before_below total a true k b (below_not_above (cmp k b) upto) (turned a b e)

  between_bounds_none : {V : Type 0} (l : List (K × V)) (lo hi : Bound K) → may_hold cmp lo hi ≡ false → between_bounds cmp l lo hi ≡ []
  between_bounds_none {V} l lo hi e =
      none_pass (λ (p : K × V). not (is_before_start cmp lo p.0) && is_upto_end cmp hi p.0) l
      (each_of (λ (p : K × V). (not (is_before_start cmp lo p.0) && is_upto_end cmp hi p.0) ≡ false) (λ p. none_by (is_before_start cmp lo p.0) (is_upto_end cmp hi p.0) (empty lo hi e p.0)) l)

-- the pairs between two keys, if they are given, are those between the bounds of these
pub between_ends : {K V : Type 0} (cmp : K → K → Ordering) (l : List (K × V)) (lo hi : Option K) (start' end' : Bound K) → start' ≡ start_bound lo → end' ≡ end_bound hi → between_bounds cmp l start' end' ≡ between cmp l lo hi
between_ends {K} cmp l lo hi start' end' e f = rw (e, f) (same lo hi)
  where
    same : (a b : Option K) → between_bounds cmp l (start_bound a) (end_bound b) ≡ between cmp l a b
    same None None = refl
    same None (Some b) = refl
    same (Some a) None = refl
    same (Some a) (Some b) = refl

-- a bound without a key is open
pub open_bound : {K : Type 0} (end' : Bool) (bound : Bound K) (found : Option (K × Bool)) → found ≡ bound_key end' bound → found ≡ None → bound ≡ Unbounded
open_bound end' (Included q) found reported is = cc
open_bound end' (Excluded q) found reported is = cc
open_bound end' Unbounded found reported is = refl

module _ {K V : Type 0} (cmp : K → K → Ordering) (l : List (K × V)) where
  -- the number of pairs before a bound, from the number of pairs on a side of its key
  at_included : (end' : Bool) (bound : Bound K) (k : K) (n : ℕ) → bound ≡ Included k → n ≡ length (filter (λ (p : K × V). is_before end' (cmp p.0 k)) l) → n ≡ length (filter (λ (p : K × V). is_before_bound cmp end' bound p.0) l)
  at_included true bound k n is counted = rw is counted
  at_included false bound k n is counted = rw is counted

  at_excluded : (end' : Bool) (bound : Bound K) (k : K) (n : ℕ) → bound ≡ Excluded k → n ≡ length (filter (λ (p : K × V). is_before (not end') (cmp p.0 k)) l) → n ≡ length (filter (λ (p : K × V). is_before_bound cmp end' bound p.0) l)
  at_excluded true bound k n is counted = rw is counted
  at_excluded false bound k n is counted = rw is counted

  pub at_key : (end' : Bool) (bound : Bound K) (found : Option (K × Bool)) (k : K) (behind : Bool) (n : ℕ) → found ≡ bound_key end' bound → found ≡ Some (k, behind) → n ≡ length (filter (λ (p : K × V). is_before behind (cmp p.0 k)) l) → n ≡ length (filter (λ (p : K × V). is_before_bound cmp end' bound p.0) l)
  at_key end' (Included q) found k behind n reported is counted =
      let same : ◌≡◌ {A = K × Bool} (q, end') (k, behind) = cc in
      at_included end' (Included q) k n (ap (λ t. Included t.0) same) (rw (ap (λ t. t.1) same) counted)
  at_key end' (Excluded q) found k behind n reported is counted =
      let same : ◌≡◌ {A = K × Bool} (q, not end') (k, behind) = cc in
      at_excluded end' (Excluded q) k n (ap (λ t. Excluded t.0) same) (rw (ap (λ t. t.1) same) counted)
  at_key end' Unbounded found k behind n reported is counted = cc

  pub at_open_start : (end' : Bool) (bound : Bound K) (n : ℕ) → bound ≡ Unbounded → end' ≡ false → n ≡ 0 → n ≡ length (filter (λ (p : K × V). is_before_bound cmp end' bound p.0) l)
  at_open_start end' bound n is start' none = rw (is, start') (none ∙ sym (ap length (none_pass (λ (p : K × V). false) l (each_of (λ (p : K × V). false ≡ false) (λ p. refl) l))))

  pub at_open_end : (end' : Bool) (bound : Bound K) (n : ℕ) → bound ≡ Unbounded → end' ≡ true → n ≡ length l → n ≡ length (filter (λ (p : K × V). is_before_bound cmp end' bound p.0) l)
  at_open_end end' bound n is end'' all = rw (is, end'') (all ∙ sym (ap length (all_pass (λ (p : K × V). true) l (λ p. refl))))

less_passes : (behind : Bool) → is_before behind Less ≡ true
less_passes true = refl
less_passes false = refl

greater_fails : (behind : Bool) → is_before behind Greater ≡ false
greater_fails true = refl
greater_fails false = refl

module _ {K V : Type 0} {cmp : K → K → Ordering} (total : IsTotalOrder cmp) (k : K) where
  abbrev passes : Bool → K × V → Bool
  passes behind p = is_before behind (cmp p.0 k)

  parts_pass : (behind : Bool) (l before after : List (K × V)) (pair : K × V) → IsHit cmp l before pair after k → length (filter (passes behind) l) ≡ beside (Ok (length before)) behind
  parts_pass behind l before after pair hit =
      ap (λ l. length (filter (passes behind) l)) hit.parts
      ∙ (ap length (filter-append (passes behind) before (pair ∷ after))
      ∙ (ap (λ (l : List (K × V)). length (l ++ filter (passes behind) (pair ∷ after))) (filter_all cmp k (is_before behind) Less before (less_passes behind) hit.smaller)
      ∙ (length-append before (filter (passes behind) (pair ∷ after)) ∙ rest behind)))
    where
      rest : (b : Bool) → length before + length (filter (passes b) (pair ∷ after)) ≡ beside (Ok (length before)) b
      rest true = rw (hit.equal, filter_none cmp k (is_before true) Greater after refl hit.greater) refl
      rest false = rw (hit.equal, filter_none cmp k (is_before false) Greater after refl hit.greater) (omega arith)

  parts_apart : (behind : Bool) (l before after : List (K × V)) → IsKeyGap cmp l before after k → length (filter (passes behind) l) ≡ length before
  parts_apart behind l before after gap =
      ap (λ l. length (filter (passes behind) l)) gap.parts
      ∙ (ap length (filter-append (passes behind) before after)
      ∙ (ap (λ (l : List (K × V)). length (l ++ filter (passes behind) after)) (filter_all cmp k (is_before behind) Less before (less_passes behind) gap.smaller)
      ∙ (ap (λ (l : List (K × V)). length (before ++ l)) (filter_none cmp k (is_before behind) Greater after (greater_fails behind) gap.greater) ∙ ap length (append-nil before))))

  -- the index beside a key is within an ascending list, and is the number of pairs that pass
  pub index_counts : (behind : Bool) (l : List (K × V)) (r : Result ℕ ℕ) → IsAscending cmp l → IsIndexOf cmp l k r → (beside r behind ≤ length l) × (length (filter (passes behind) l) ≡ beside r behind)
  index_counts behind [] (Ok i) ascending found = absurd found
  index_counts behind (p ∷ l) (Ok i) ascending found =
      let (within, hit) = hit_at cmp total (p ∷ l) ascending k i p found in
      let long = length-take-le i (p ∷ l) (omega (arith, within)) in
      (beside_within behind i (length (p ∷ l)) within, parts_pass behind (p ∷ l) (take i (p ∷ l)) (drop (suc i) (p ∷ l)) (get_or (p ∷ l) i p) hit ∙ ap (λ n. beside (Ok n) behind) long)
    where
      beside_within : (b : Bool) (i n : ℕ) → i < n → beside (Ok i) b ≤ n
      beside_within true i n less = omega (arith, less)
      beside_within false i n less = omega (arith, less)
  index_counts behind l (Err i) ascending found =
      let (within, gap) = gap_at cmp total l ascending k i found.0 found.1 in
      (within, parts_apart behind l (take i l) (drop i l) gap ∙ length-take-le i l within)

module _ {K V A : Type 0} {cmp : K → K → Ordering} (total : IsTotalOrder cmp) (is_summary : A → List K → Type 0) (slots : Slots (Inner K A) (Leaf K V)) (h : ℕ) (root : NodeId) (shape : IsWellShaped cmp is_summary slots h root) where
  -- if some key can be between two bounds, the pairs between them are those between the positions
  -- at which they begin and end, and between these positions when settled; otherwise there are no
  -- such pairs
  module _ (lo hi : Bound K) (hold : Bool) (reported : hold ≡ may_hold cmp lo hi) where
    pub held_between : (i j : ℕ) → i ≡ length (filter (λ (p : K × V). is_before_start cmp lo p.0) (pairs_at slots h root)) → j ≡ length (filter (λ (p : K × V). is_upto_end cmp hi p.0) (pairs_at slots h root)) → hold ≡ true → (i ≤ j) × (between_bounds cmp (pairs_at slots h root) lo hi ≡ part (pairs_at slots h root) i (j - i))
    held_between i j before upto yes' =
        let few = filter_fewer (λ (p : K × V). is_before_start cmp lo p.0) (λ (p : K × V). is_upto_end cmp hi p.0) (pairs_at slots h root) (λ p. held total lo hi (sym reported ∙ yes') p.0) in
        (omega (arith, few, before, upto), between_bounds_is total (pairs_at slots h root) lo hi i j (contents_ascend is_summary slots h root shape total) before upto)

    pub settled_between : (i j i' j' : ℕ) → i' ≡ i → j' ≡ j → i ≡ length (filter (λ (p : K × V). is_before_start cmp lo p.0) (pairs_at slots h root)) → j ≡ length (filter (λ (p : K × V). is_upto_end cmp hi p.0) (pairs_at slots h root)) → hold ≡ true
        → (xs : List (K × V)) → between_bounds cmp (pairs_at slots h root) lo hi ≡ xs → (i' ≤ j') × (xs ≡ part (pairs_at slots h root) i' (j' - i'))
    settled_between i j i' j' e f before upto yes' xs same = let found = held_between i' j' (e ∙ before) (f ∙ upto) yes' in (found.0, sym same ∙ found.1)

    pub none_held : hold ≡ false → between_bounds cmp (pairs_at slots h root) lo hi ≡ []
    none_held no' = between_bounds_none total (pairs_at slots h root) lo hi (sym reported ∙ no')

    pub none_settled : hold ≡ false → (xs : List (K × V)) → between_bounds cmp (pairs_at slots h root) lo hi ≡ xs → (i : ℕ) → xs ≡ part (pairs_at slots h root) i (i - i)
    none_settled no' xs same i = let gap : i - i ≡ 0 = omega arith in sym same ∙ (none_held no' ∙ sym (ap (part (pairs_at slots h root) i) gap))

  -- the slot beside a key in the leaf for it is a position of the tree, with so many pairs before
  -- it
  pub index_beside : (k : K) (id : LeafNodeId) (r : Result ℕ ℕ) (behind : Bool) (n : ℕ) → IsIndexAt cmp slots h root k id r → n ≡ beside r behind
      → IsIndexOn slots h root id n × (start slots h root id + n ≡ length (filter (λ (p : K × V). is_before behind (cmp p.0 k)) (pairs_at slots h root)))
  index_beside k id r behind n at is =
      let for' = at.for_key in
      let in' = for'.stored in
      let here = leaf_pairs (slots.leaf id.0) in
      let counts = index_counts total k behind here r (index_ascends total is_summary slots h root shape k id r at) at.index_is in
      let t = λ (p : K × V). is_before behind (cmp p.0 k) in
      let before = pairs_of slots in'.before in
      let after = pairs_of slots in'.after in
      let all : filter t (pairs_at slots h root) ≡ before ++ (filter t here ++ []) =
      ap (filter t) (parts_of slots h root id in')
      ∙ (filter-append t before (here ++ after)
      ∙ (ap (λ l. l ++ filter t (here ++ after)) (filter_all cmp k (is_before behind) Less before (less_passes behind) for'.smaller)
      ∙ ap (λ l. before ++ l) (filter-append t here after ∙ ap (λ l. filter t here ++ l) (filter_none cmp k (is_before behind) Greater after (greater_fails behind) for'.greater)))) in (
        record { stored = in'; within = omega (arith, is, counts.0) },
        omega (arith, start_is is_summary slots h root shape id in', ap length all, length-append before (filter t here ++ []), length-append (filter t here) [], counts.1, is),
      )

  -- the position on a side of a key is a position of the tree, with so many pairs before it
  pub index_at_side : (k : K) (found : Result Position Position) (behind : Bool) (at : Position) → IsIndexAt cmp slots h root k (leaf_of_result found) (slot_of_result found) → at ≡ position_beside found behind
      → IsIndexOn slots h root at.leaf at.slot × (index_on slots h root at ≡ length (filter (λ (p : K × V). is_before behind (cmp p.0 k)) (pairs_at slots h root)))
  index_at_side k found behind at there is = rw is (index_beside k (leaf_of_result found) (slot_of_result found) behind (beside (slot_of_result found) behind) there refl)

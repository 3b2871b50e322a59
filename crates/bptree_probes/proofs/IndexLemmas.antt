-- The pairs that a search in a leaf finds, and the pair at the index of a key.
use Rattle.std.proofs.Common.{◌≡◌, ◌<◌, ◌^◌, ◌+◌, ◌-◌, ℕ, suc, Bool, true, false, cond, List, [], ◌∷◌, ◌++◌, filter, length, length-append, Option, Result, Ok, Err, Some, None, IfOk, OnErr, refl, sym, ap, ◌∙◌, arith, slice_get}
use Rattle.std.specs.declared.alloc.AllocError.{AllocError}
use Rattle.std.specs.declared.cmp.Ordering.{Ordering}
use Rattle.std.specs.declared.cmp.Ordering.TheVariants.{Less, Greater}
use Rattle.std.specs.Cmp.{IsTotalOrder}
use Rattle.std.specs.List.{remove}
use Rattle.std.specs.List.Sorted.{IsStrictlySortedBy}
use Rattle.std.specs.Map.{keys_of, values_of}
use Rattle.std.specs.Ordering.{is_lt, is_gt}
use Rattle.std.proofs.lemmas.List.{nil_from_length}
use Rattle.std.proofs.lemmas.List.Elements.{filter-append}
use Rattle.bptree_arguments.specs.CountLaws.{CountsKeys, Counted, count_below}
use Rattle.bptree_arguments.specs.declared.count.Count.{Count}
use Rattle.bptree_search.specs.ByArgument.{RanksAmong}
use Rattle.bptree_search.proofs.Summed.{get_early, get_past, ranked_alone, whole_subtree}
use Rattle.bptree_keys.specs.Contents.{IsAscending, has, next, pairs_above, pairs_below, previous, put, value}
use Rattle.bptree_keys.specs.declared.node_id.NodeId.{NodeId}
use Rattle.bptree_keys.specs.Locate.{locate}
use Rattle.bptree_keys.specs.Indexes.{IsKeyGap, IsHit, IsIndexOf}
use Rattle.bptree_keys.proofs.Ascending.{gap_if_absent}
use Rattle.bptree_keys.proofs.Found.{gap_at}
use Rattle.bptree_keys.proofs.Laws.{found_if_there, hit_if_there}
use Rattle.bptree_keys.proofs.Parted.{del_gap, filter_all, filter_none, pairs_below_hit, value_gap}
use Rattle.bptree_nodes.specs.Inner.{Inner}
use Rattle.bptree_nodes.specs.Leaf.{Leaf, set_value_at}
use Rattle.bptree_nodes.specs.LeafResults.{HasEqualAt}
use Rattle.bptree_nodes.specs.Slot.{Slots}
use Rattle.bptree_nodes.proofs.LeafContents.{index_of_locate, put_at_index, value_at_index, value_of_pair}
use Rattle.bptree_removal.proofs.Deleted.{deleted_by}
use Rattle.bptree_invariant.specs.Shape.{IsWellShaped, pairs_at}
use Rattle.bptree_tree.specs.Changes.{EitherWay, Removes}
use Rattle.bptree_probes.specs.Taken.{IsValueOf}

module _ {K V : Type 0} (cmp : K → K → Ordering) (total : IsTotalOrder cmp) (k : K) (l : List (K × V)) (ascending : IsAscending cmp l) (keys : List K) (are : keys ≡ keys_of l) where
  pub index_is : (r : Result ℕ ℕ) → (IsStrictlySortedBy cmp keys → r ≡ locate cmp keys k) → IsIndexOf cmp l k r
  index_is r is = rw (is (rw are ascending), are) (index_of_locate cmp total k l ascending)

  pub value_found : (i : ℕ) (pair : K × V) → (IsStrictlySortedBy cmp keys → Ok i ≡ locate cmp keys k) → slice_get l i ≡ Some pair → Some pair.1 ≡ value cmp l k
  value_found i pair is read = sym (value_of_pair cmp total l ascending k i pair (index_is (Ok i) is) read)

  pub value_missed : (i : ℕ) → (IsStrictlySortedBy cmp keys → Err i ≡ locate cmp keys k) → None ≡ value cmp l k
  value_missed i is = let at = index_is (Err i) is in sym (value_gap cmp l _ _ k (gap_at cmp total l ascending k i at.0 at.1).1)

-- a rank in a whole tree, with no keys before it, is the number of smaller keys
module _ {K V : Type 0} {cmp : K → K → Ordering} (total : IsTotalOrder cmp) (slots : Slots (Inner K Count) (Leaf K V)) (h : ℕ) (root : NodeId) (len : ℕ) where
  pub rank_whole : IsWellShaped cmp CountsKeys slots h root → len ≡ length (pairs_at slots h root) → len < 2 ^ 64 → (k : K) (outcome : Result ℕ ℕ)
      → RanksAmong cmp Counted (λ k keys rank. rank ≡ count_below cmp k keys) k 0 (keys_of (pairs_at slots h root)) outcome → EitherWay (λ n. n ≡ count_below cmp k (keys_of (pairs_at slots h root))) outcome
  rank_whole shape is fits k outcome there =
      ranked_alone total CountsKeys slots Counted (λ k keys rank. rank ≡ count_below cmp k keys) k 0 refl h root (whole_subtree total CountsKeys slots h root len shape is fits) outcome there

get_middle : {X : Type 0} (before : List X) (x : X) (after : List X) → slice_get (before ++ x ∷ after) (length before) ≡ Some x
get_middle [] x after = refl
get_middle (y ∷ before) x after = get_middle before x after

pub count_is : {K V : Type 0} (cmp : K → K → Ordering) (k : K) (l : List (K × V)) → count_below cmp k (keys_of l) ≡ length (pairs_below cmp l k)
count_is cmp k [] = refl
count_is cmp k (p ∷ l) =
    elim (is_lt (cmp p.0 k)) as (λ b. length (cond b (p.0 ∷ filter (λ x. is_lt (cmp x k)) (keys_of l)) (filter (λ x. is_lt (cmp x k)) (keys_of l))) ≡ length (cond b (p ∷ pairs_below cmp l k) (pairs_below cmp l k))) [
      | true ↦ ap suc (count_is cmp k l)
      | false ↦ count_is cmp k l
    ]

above_of_hit : {K V : Type 0} (cmp : K → K → Ordering) (l before : List (K × V)) (pair : K × V) (after : List (K × V)) (k : K) (hit : IsHit cmp l before pair after k) → pairs_above cmp l k ≡ after
above_of_hit cmp l before pair after k hit = rw (hit.parts, filter-append, filter_none cmp k is_gt Less before refl hit.smaller, hit.equal) (filter_all cmp k is_gt Greater after refl hit.greater)

-- the pair at the index of a key, if the key is present and if not
module _ {K V : Type 0} {cmp : K → K → Ordering} (total : IsTotalOrder cmp) (l : List (K × V)) (ascending : IsAscending cmp l) (k : K) where
  module _ (there : has cmp l k ≡ true) where
    abbrev before : List (K × V)
    before = (found_if_there cmp k l there).before

    abbrev pair : K × V
    pair = (found_if_there cmp k l there).pair

    abbrev after : List (K × V)
    after = (found_if_there cmp k l there).after

    hit : IsHit cmp l before pair after k
    hit = hit_if_there cmp total l ascending k there

    index_of_hit : count_below cmp k (keys_of l) ≡ length before
    index_of_hit = count_is cmp k l ∙ ap length (pairs_below_hit cmp l before pair after k hit)

    pair_there : (i : ℕ) → i ≡ count_below cmp k (keys_of l) → slice_get l i ≡ Some pair
    pair_there i is = ap (slice_get l) (is ∙ index_of_hit) ∙ ap (λ xs. slice_get xs (length before)) hit.parts ∙ get_middle before pair after

    equal_there : (i : ℕ) → i ≡ count_below cmp k (keys_of l) → HasEqualAt cmp l k i
    equal_there i is = rw (pair_there i is) hit.equal

    pub index_within : (i : ℕ) → i ≡ count_below cmp k (keys_of l) → i < length l
    index_within i is = omega (arith, is, index_of_hit, ap length hit.parts, length-append before (pair ∷ after))

    value_there : value cmp l k ≡ Some pair.1
    value_there = value_of_pair cmp total l ascending k _ pair (equal_there _ refl) (pair_there _ refl)

    -- the pair that was removed is that of the key
    pub removed_there : (i : ℕ) → i ≡ count_below cmp k (keys_of l) → (new : List (K × V)) (gone : Result (Option (K × V)) AllocError) (reported : Result (Option V) AllocError)
        → IfOk gone (λ g. (g ≡ slice_get l i) × (new ≡ remove l i)) → IsValueOf gone reported → IfOk reported (Removes cmp k l new)
    removed_there i is new (Ok None) reported ok of = let none : None ≡ Some pair = ok.0 ∙ pair_there i is in absurd cc
    removed_there i is new (Ok (Some g)) reported ok of =
        let same : g ≡ pair = let e : Some g ≡ Some pair = ok.0 ∙ pair_there i is in cc in
        rw of (ap (λ p. Some p.1) same ∙ sym value_there, ok.1 ∙ deleted_by total l i pair k ascending (pair_there i is) hit.equal)
    removed_there i is new (Err unchanged) reported ok of = rw of tt

    -- the value that was written is the one at the key
    pub replaced_there : (i : ℕ) → i ≡ count_below cmp k (keys_of l) → (was v : V) → slice_get (values_of l) i ≡ Some was → (value cmp l k ≡ Some was) × (set_value_at l i v ≡ put cmp l k v)
    replaced_there i is was v read = (sym (value_at_index cmp total l ascending k i (equal_there i is)) ∙ read, put_at_index cmp total l ascending k i v (equal_there i is))

    pub next_there : (i : ℕ) → i ≡ count_below cmp k (keys_of l) → slice_get l (i + 1) ≡ next cmp l k
    next_there i is =
        let far : i + 1 ≡ length before + suc 0 = omega (arith, is, index_of_hit) in
        ap (slice_get l) far ∙ ap (λ m. slice_get m (length before + suc 0)) hit.parts ∙ get_past before (pair ∷ after) (suc 0) ∙ sym (ap (λ m. slice_get m 0) (above_of_hit cmp l before pair after k hit))

    first_there : (rest : List (K × V)) × (l ≡ pairs_below cmp l k ++ rest)
    first_there = (pair ∷ after, hit.parts ∙ ap (λ m. m ++ pair ∷ after) (sym (pairs_below_hit cmp l before pair after k hit)))

  module _ (absent : has cmp l k ≡ false) where
    gap : IsKeyGap cmp l (pairs_below cmp l k) (pairs_above cmp l k) k
    gap = gap_if_absent cmp total l k ascending absent

    pub removes_none : Removes cmp k l l None
    removes_none = (sym (value_gap cmp l _ _ k gap), sym (del_gap cmp l _ _ k gap))

    pub next_absent : (i : ℕ) → i ≡ count_below cmp k (keys_of l) → slice_get l i ≡ next cmp l k
    next_absent i is =
        let far : i ≡ length (pairs_below cmp l k) + 0 = omega (arith, is, count_is cmp k l) in
        ap (slice_get l) far ∙ ap (λ m. slice_get m (length (pairs_below cmp l k) + 0)) gap.parts ∙ get_past (pairs_below cmp l k) (pairs_above cmp l k) 0

    first_absent : (rest : List (K × V)) × (l ≡ pairs_below cmp l k ++ rest)
    first_absent = (pairs_above cmp l k, gap.parts)

  first_by : (b : Bool) → has cmp l k ≡ b → (rest : List (K × V)) × (l ≡ pairs_below cmp l k ++ rest)
  first_by true there = first_there there
  first_by false absent = first_absent absent

  pub previous_at : (i : ℕ) → i ≡ count_below cmp k (keys_of l) → 0 < i → slice_get l (i - 1) ≡ previous cmp l k
  previous_at i is some =
      let first = first_by (has cmp l k) refl in
      let same : i ≡ length (pairs_below cmp l k) = is ∙ count_is cmp k l in
      let short : i - 1 < length (pairs_below cmp l k) = omega (arith, same) in
      ap (λ m. slice_get m (i - 1)) first.1 ∙ (get_early (pairs_below cmp l k) first.0 (i - 1) short ∙ ap (λ n. slice_get (pairs_below cmp l k) (n - 1)) same)

  pub none_previous : (i : ℕ) → i ≡ count_below cmp k (keys_of l) → i ≡ 0 → None ≡ previous cmp l k
  none_previous i is none = let empty : length (pairs_below cmp l k) ≡ 0 = omega (arith, is, none, count_is cmp k l) in ap (λ m. slice_get m (length m - 1)) (sym (nil_from_length (pairs_below cmp l k) empty))

-- a removal that failed leaves the list unchanged
pub kept_if_failed : {K V : Type 0} (old new : List (K × V)) (gone : Result (Option (K × V)) AllocError) (reported : Result (Option V) AllocError) → IsValueOf gone reported → OnErr gone (new ≡ old) → OnErr reported (new ≡ old)
kept_if_failed old new (Ok None) reported of kept = rw of tt
kept_if_failed old new (Ok (Some g)) reported of kept = rw of tt
kept_if_failed old new (Err unchanged) reported of kept = rw of kept

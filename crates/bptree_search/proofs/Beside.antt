-- The pairs beside the position of a key in a tree.
use Rattle.std.proofs.Common.{◌≡◌, ℕ, zero, suc, ◌-◌, ◌<◌, ◌≤◌, Bool, true, false, List, [], ◌∷◌, ◌++◌, length, take, drop, refl, sym, ap, subst, ◌∙◌, arith, Option, Some, None, Result, Ok, Err, append_assoc, append-nil, length-append, slice_get, slice_index_or, IsSomeAnd, not, is_none, get_or, ◌&&◌}
use mathlib.Core.Bool.{true≢false}
use Rattle.std.proofs.lemmas.List.{drop_all}
use Rattle.std.specs.declared.cmp.Ordering.{Ordering}
use Rattle.std.specs.declared.cmp.Ordering.TheVariants.{Equal}
use Rattle.std.specs.Cmp.{IsTotalOrder}
use Rattle.std.specs.List.{AllByRecursion}
use Rattle.std.specs.List.Sorted.{IsSearchInRange}
use Rattle.std.specs.Ordering.{is_gt, is_lt, ordering_reverse}
use Rattle.std.specs.Map.{keys_of}
use Rattle.std.proofs.Math.Bool.{or-true}
use Rattle.std.proofs.lemmas.List.Elements.{filter-append}
use Rattle.std.proofs.lemmas.Option.{get_or_from_slice_get, slice_get_within}
use Rattle.std.specs.declared.cmp.Ordering.TheVariants.{Less, Greater}
use Rattle.bptree_keys.specs.Contents.{IsAscending, has, last_member, pairs_below, pairs_above, next, previous, value}
use Rattle.bptree_keys.specs.Locate.{child_index}
use Rattle.bptree_keys.specs.Indexes.{AllCompare, IsHit, IsIndexOf}
use Rattle.bptree_keys.specs.Ranges.{between}
use Rattle.bptree_keys.specs.declared.node_id.LeafNodeId.{LeafNodeId}
use Rattle.bptree_keys.specs.declared.node_id.NodeId.{NodeId}
use Rattle.bptree_keys.specs.declared.node_id.Position.{Position}
use Rattle.bptree_keys.specs.declared.node_id.NodeId.TheVariants as kind
use Rattle.bptree_keys.proofs.Around.{pairs_below_around, pairs_above_around}
use Rattle.bptree_keys.proofs.Found.{hit_at, gap_at}
use Rattle.bptree_keys.proofs.Parted.{filter_all, filter_none, pairs_below_hit, pairs_below_gap, pairs_above_gap, value_hit, value_gap}
use Rattle.bptree_keys.proofs.PieceLemmas.{AllByRecursion-left, AllByRecursion-right}
use Rattle.bptree_nodes.specs.Inner.{Inner}
use Rattle.bptree_nodes.specs.Leaf.{Leaf, leaf_in_range, leaf_keys, reaches_first, reaches_last}
use Rattle.bptree_nodes.specs.LeafResults.{index_of_result, HasEqualAt}
use Rattle.bptree_invariant.proofs.Hinted.{present_is_leaf_of}
use Rattle.bptree_nodes.specs.Slot.{Slot, Slots, Free, Held, Present, IsPresent}
use Rattle.bptree_stores.specs.Hint.{HoldsKey}
use Rattle.bptree_invariant.specs.Leaves.{pairs_of, IsLeafOf, IsLeafFor}
use Rattle.bptree_search.specs.Neighbours.{at_least, beside, first_beside, first_from, in_leaf, IsIndexAt, last_upto, leaf_pairs_of, leaf_of_result, slot_of_result}
use Rattle.bptree_invariant.specs.Shape.{leaf_pairs, leaf_prev, leaf_next, pairs_at, AreLinked, IsTree, IsWellShaped, root_least}
use Rattle.bptree_invariant.proofs.Ends.{alone, leaves_have, get_right}
use Rattle.bptree_invariant.proofs.Hinted.{first_or, last_or, hinted, linked_next, linked_prev}
use Rattle.bptree_invariant.proofs.LeafFor.{absent_there}
use Rattle.bptree_invariant.proofs.Spot.{leaf_ascends, parts_of, value_in_leaf}
use Rattle.bptree_invariant.proofs.Walk.{tree_ascends}

-- whether a key that compares so to another is not below it
abbrev reaches : Ordering → Bool
reaches o = not (is_lt o) && true

drop_one : {X : Type 0} (l : List X) (i : ℕ) (d : X) → i < length l → drop i l ≡ get_or l i d ∷ drop (suc i) l
drop_one [] i d within = absurd (omega arith)
drop_one (x ∷ xs) zero d within = refl
drop_one (x ∷ xs) (suc i) d within = let small : i < length xs = omega arith in drop_one xs i d small

module _ {K V : Type 0} (cmp : K → K → Ordering) (total : IsTotalOrder cmp) (l : List (K × V)) (ascending : IsAscending cmp l) (k : K) where
  pairs_above_hit : (before : List (K × V)) (pair : K × V) (after : List (K × V)) → IsHit cmp l before pair after k → pairs_above cmp l k ≡ after
  pairs_above_hit before pair after hit = rw (hit.parts, filter-append, filter_none cmp k is_gt Less before refl hit.smaller, hit.equal, filter_all cmp k is_gt Greater after refl hit.greater) refl

  -- a search that found an equal key found a pair
  pair_read : (o : Option (K × V)) → IsSomeAnd o (λ pair. cmp pair.0 k ≡ Equal) → (pair : K × V) × (o ≡ Some pair)
  pair_read None found = absurd found
  pair_read (Some pair) found = (pair, refl)

  pair_found : (i : ℕ) → IsSomeAnd (slice_get l i) (λ pair. cmp pair.0 k ≡ Equal) → (pair : K × V) × (slice_get l i ≡ Some pair)
  pair_found i found = pair_read (slice_get l i) found

  -- the pairs above k are those from the child index for k on
  above_from : (index : Result ℕ ℕ) → IsIndexOf cmp l k index → pairs_above cmp l k ≡ drop (child_index index) l
  above_from (Ok i) found = pairs_above_hit _ _ _ (hit_at cmp total l ascending k i (pair_found i found).0 found).1
  above_from (Err i) gap = pairs_above_gap cmp l _ _ k (gap_at cmp total l ascending k i gap.0 gap.1).1

  -- the pairs not below k are those from the slot of k on
  least_from : (index : Result ℕ ℕ) → IsIndexOf cmp l k index → between cmp l (Some k) None ≡ drop (index_of_result index) l
  least_from (Ok i) found =
      let (within, hit) = hit_at cmp total l ascending k i (pair_found i found).0 found in
      ap (λ l. between cmp l (Some k) None) hit.parts
      ∙ rw (filter-append, filter_none cmp k reaches Less (take i l) refl hit.smaller, hit.equal, filter_all cmp k reaches Greater (drop (suc i) l) refl hit.greater) (sym (drop_one l i (pair_found i found).0 within))
  least_from (Err i) gap =
      let parts = (gap_at cmp total l ascending k i gap.0 gap.1).1 in
      ap (λ l. between cmp l (Some k) None) parts.parts ∙ rw (filter-append, filter_none cmp k reaches Less (take i l) refl parts.smaller, filter_all cmp k reaches Greater (drop i l) refl parts.greater) refl

  pub below_upto : (index : Result ℕ ℕ) → IsIndexOf cmp l k index → pairs_below cmp l k ≡ take (index_of_result index) l
  below_upto (Ok i) found = pairs_below_hit cmp l _ _ _ k (hit_at cmp total l ascending k i (pair_found i found).0 found).1
  below_upto (Err i) gap = pairs_below_gap cmp l _ _ k (gap_at cmp total l ascending k i gap.0 gap.1).1

  pub index_within : (index : Result ℕ ℕ) → IsIndexOf cmp l k index → index_of_result index ≤ length l
  index_within (Ok i) found = let pair = pair_found i found in omega (arith, slice_get_within l i pair.0 pair.1)
  index_within (Err i) gap = (gap_at cmp total l ascending k i gap.0 gap.1).0

  value_there : (i : ℕ) (pair : K × V) → IsIndexOf cmp l k (Ok i) → slice_get l i ≡ Some pair → value cmp l k ≡ Some pair.1
  value_there i pair found read = value_hit cmp l _ _ _ k (hit_at cmp total l ascending k i pair found).1 ∙ ap (λ (p : K × V). Some p.1) (get_or_from_slice_get l i pair pair read)

  value_absent : (i : ℕ) → IsIndexOf cmp l k (Err i) → value cmp l k ≡ None
  value_absent i gap = value_gap cmp l _ _ k (gap_at cmp total l ascending k i gap.0 gap.1).1

behind_index : (index : Result ℕ ℕ) → beside index true ≡ child_index index
behind_index (Ok i) = omega arith
behind_index (Err i) = refl

pub before_index : (index : Result ℕ ℕ) → beside index false ≡ index_of_result index
before_index (Ok i) = refl
before_index (Err i) = refl

-- the slot that a search of a leaf returned is at most 64
pub reported_fits : (index : Result ℕ ℕ) (n : ℕ) → IsSearchInRange index n → n ≤ 64 → index_of_result index ≤ 64
reported_fits (Ok i) n within few = omega (arith, within, few)
reported_fits (Err i) n within few = omega (arith, within, few)

get_left : {X : Type 0} (xs ys : List X) → 0 < length xs → slice_get xs 0 ≡ slice_get (xs ++ ys) 0
get_left [] ys some = absurd (omega arith)
get_left (x ∷ xs) ys some = refl

module _ {K V A : Type 0} (slots : Slots (Inner K A) (Leaf K V)) where
  abbrev pub HasPair : LeafNodeId → Type 0
  HasPair l = 0 < length (leaf_pairs (slots.leaf l.0))

  -- the first pair behind a leaf is the first pair of the next leaf
  first_behind : (xs : List (K × V)) (after : List LeafNodeId) → AllByRecursion HasPair after → slice_get (xs ++ leaf_pairs_of slots (first_or None after)) 0 ≡ slice_get (xs ++ pairs_of slots after) 0
  first_behind xs [] all = refl
  first_behind [] (y ∷ ys) all = get_left (leaf_pairs (slots.leaf y.0)) (pairs_of slots ys) all.0
  first_behind (x ∷ xs) (y ∷ ys) all = refl

  module _ (leaf : Leaf K V) (at : Position) (here : slots.leaf at.leaf.0 ≡ Present leaf) where
    -- the first pair from a position on, by the leaf that was read
    pub first_is : first_from slots at ≡ slice_get (drop at.slot leaf.pairs ++ leaf_pairs_of slots leaf.next) 0
    first_is = ap (λ (s : Slot (Leaf K V)). slice_get (drop at.slot (leaf_pairs s) ++ leaf_pairs_of slots (leaf_next s)) 0) here

    -- the first pair from a position on, which is in its leaf if that has a pair there, and
    -- otherwise in the next leaf
    pub first_here : (pair : K × V) → slice_get leaf.pairs at.slot ≡ Some pair → Some pair ≡ first_from slots at
    first_here pair read = sym (first_is ∙ read_on leaf.pairs at.slot read)
      where
        read_on : (xs : List (K × V)) (n : ℕ) → slice_get xs n ≡ Some pair → slice_get (drop n xs ++ leaf_pairs_of slots leaf.next) 0 ≡ Some pair
        read_on [] n read = cc
        read_on (x ∷ xs) zero read = read
        read_on (x ∷ xs) (suc n) read = read_on xs n read

    pub first_after : (link : Option LeafNodeId) (found : Option (K × V)) → (at.slot < length leaf.pairs → false ≡ true) → link ≡ leaf.next → found ≡ slice_get (leaf_pairs_of slots link) 0 → found ≡ first_from slots at
    first_after link found none is read =
        let never : at.slot < length leaf.pairs → ⊥ = λ less. true≢false (sym (none less)) in
        let past : length leaf.pairs ≤ at.slot = omega (arith, never) in
        read ∙ (ap (λ o. slice_get (leaf_pairs_of slots o) 0) is ∙ (sym (ap (λ xs. slice_get (xs ++ leaf_pairs_of slots leaf.next) 0) (drop_all at.slot leaf.pairs past)) ∙ sym first_is))

  -- the last pair before a leaf is the last pair of the previous leaf
  last_among : (x : LeafNodeId) (xs : List LeafNodeId) (ys : List (K × V)) → AllByRecursion HasPair (x ∷ xs)
      → slice_get (leaf_pairs_of slots (last_or (Some x) xs) ++ ys) (length (leaf_pairs_of slots (last_or (Some x) xs) ++ ys) - 1) ≡ slice_get (pairs_of slots (x ∷ xs) ++ ys) (length (pairs_of slots (x ∷ xs) ++ ys) - 1)
  last_among x [] ys all = rw append-nil refl
  last_among x (y ∷ zs) ys all =
      let some : 0 < length (pairs_of slots (y ∷ zs) ++ ys) = omega (arith, all.1.0, length-append (leaf_pairs (slots.leaf y.0) ++ pairs_of slots zs) ys, length-append (leaf_pairs (slots.leaf y.0)) (pairs_of slots zs)) in
      last_among y zs ys all.1 ∙ (sym (get_right (leaf_pairs (slots.leaf x.0)) (pairs_of slots (y ∷ zs) ++ ys) some)
      ∙ ap (λ (l : List (K × V)). slice_get l (length l - 1)) (sym (append_assoc (leaf_pairs (slots.leaf x.0)) (pairs_of slots (y ∷ zs)) ys)))

  last_before : (before : List LeafNodeId) (ys : List (K × V)) → AllByRecursion HasPair before
      → slice_get (leaf_pairs_of slots (last_or None before) ++ ys) (length (leaf_pairs_of slots (last_or None before) ++ ys) - 1) ≡ slice_get (pairs_of slots before ++ ys) (length (pairs_of slots before ++ ys) - 1)
  last_before [] ys all = refl
  last_before (x ∷ xs) ys all = last_among x xs ys all

  -- each leaf before or after a leaf has a pair
  pub others_have : (cmp : K → K → Ordering) (h : ℕ) (root : NodeId) (leaf : LeafNodeId) (in' : IsLeafOf slots h root leaf) → IsTree cmp slots (root_least h) h root None None → AllByRecursion HasPair in'.before × AllByRecursion HasPair in'.after
  others_have cmp zero (kind.Leaf id) leaf in' t = let none = alone id in'.before leaf in'.after in'.leaves in rw (none.0, none.1) (tt, tt)
  others_have cmp zero (kind.Inner id) leaf in' t = absurd t
  others_have cmp (suc h) (kind.Leaf id) leaf in' t = absurd t
  others_have cmp (suc h) (kind.Inner id) leaf in' t =
      let all = subst (AllByRecursion HasPair) in'.leaves (leaves_have cmp slots (root_least (suc h)) (suc h) (kind.Inner id) None None (omega arith) t) in
      (AllByRecursion-left HasPair in'.before (leaf ∷ in'.after) all, (AllByRecursion-right HasPair in'.before (leaf ∷ in'.after) all).1)

-- the result of a search of a leaf, as a position, is the key's
pub in_positions : {K V A : Type 0} {cmp : K → K → Ordering} (slots : Slots (Inner K A) (Leaf K V)) (h : ℕ) (root : NodeId) (k : K) (id : LeafNodeId) (index : Result ℕ ℕ) (found : Result Position Position) → found ≡ in_leaf id index → IsIndexAt cmp slots h root k id index → IsIndexAt cmp slots h root k (leaf_of_result found) (slot_of_result found)
in_positions slots h root k id (Ok i) found is at = rw is at
in_positions slots h root k id (Err i) found is at = rw is at

-- the leaf of the found position is the leaf that was searched
pub leaf_kept : (id : LeafNodeId) (index : Result ℕ ℕ) (found : Result Position Position) → found ≡ in_leaf id index → leaf_of_result found ≡ id
leaf_kept id (Ok i) found is = ap leaf_of_result is
leaf_kept id (Err i) found is = ap leaf_of_result is

module _ {K V A : Type 0} {cmp : K → K → Ordering} (total : IsTotalOrder cmp) (is_summary : A → List K → Type 0) (slots : Slots (Inner K A) (Leaf K V)) (h : ℕ) (root : NodeId) (shape : IsWellShaped cmp is_summary slots h root) where
  ascends : (id : LeafNodeId) (leaf : Leaf K V) → IsLeafOf slots h root id → slots.leaf id.0 ≡ Present leaf → IsAscending cmp leaf.pairs
  ascends id leaf in' here = leaf_ascends total slots h root id leaf in' (tree_ascends total slots (root_least h) h root None None shape.tree) here

  -- a search in the leaf for a key finds the key's position
  pub found_at : (k : K) (id : LeafNodeId) (leaf : Leaf K V) (index : Result ℕ ℕ) → IsLeafFor cmp slots h root k id → slots.leaf id.0 ≡ Present leaf → (IsAscending cmp leaf.pairs → IsIndexOf cmp leaf.pairs k index) → length leaf.pairs ≤ 64 → IsIndexAt cmp slots h root k id index
  found_at k id leaf index for' here found fits = record { for_key = for'; index_is = rw here (found (ascends id leaf for'.stored here)); fits = rw here fits }

  -- a search in a present leaf whose range contains the key finds the key's position
  pub hinted_at : (k : K) (id : LeafNodeId) (leaf : Leaf K V) (index : Result ℕ ℕ) (within : Bool) → slots.leaf id.0 ≡ Present leaf → within ≡ leaf_in_range cmp leaf k → within ≡ true → (IsAscending cmp leaf.pairs → IsIndexOf cmp leaf.pairs k index) → length leaf.pairs ≤ 64 → IsIndexAt cmp slots h root k id index
  hinted_at k id leaf index within here range true' found fits =
      let holds : HoldsKey cmp (slots.leaf id.0) k = subst (λ (s : Slot (Leaf K V)). HoldsKey cmp s k) (sym here) (sym range ∙ true') in
      found_at k id leaf index (hinted total is_summary slots h root shape k id holds) here found fits

  -- the range of a leaf contains each key of the leaf
  turned : (x y : K) (o : Ordering) → cmp x y ≡ o → cmp y x ≡ ordering_reverse o
  turned x y o is = total.antisymm y x ∙ ap ordering_reverse is

  first_reached : (k : K) (ps : List (K × V)) (i : ℕ) → HasEqualAt cmp ps k i → AllCompare cmp k Less (take i ps) → reaches_first cmp (keys_of ps) k ≡ true
  first_reached k [] i equal smaller = absurd equal
  first_reached k (p ∷ ps) zero equal smaller = ap (λ o. not (is_lt o)) (turned p.0 k Equal equal)
  first_reached k (p ∷ ps) (suc i) equal smaller = ap (λ o. not (is_lt o)) (turned p.0 k Less smaller.0)

  last_greater : (k d : K) (p : K × V) (ps : List (K × V)) → AllCompare cmp k Greater (p ∷ ps) → not (is_gt (cmp k (slice_index_or (keys_of (p ∷ ps)) (length (keys_of ps)) d))) ≡ true
  last_greater k d p [] greater = ap (λ o. not (is_gt o)) (turned p.0 k Greater greater.0)
  last_greater k d p (q ∷ ps) greater = last_greater k d q ps greater.1

  last_reached : (k d : K) (p : K × V) (ps : List (K × V)) (i : ℕ) → HasEqualAt cmp (p ∷ ps) k i → AllCompare cmp k Greater (drop (suc i) (p ∷ ps)) → not (is_gt (cmp k (slice_index_or (keys_of (p ∷ ps)) (length (keys_of ps)) d))) ≡ true
  last_reached k d p [] zero equal greater = ap (λ o. not (is_gt o)) (turned p.0 k Equal equal)
  last_reached k d p [] (suc i) equal greater = absurd equal
  last_reached k d p (q ∷ ps) zero equal greater = last_greater k d q ps greater
  last_reached k d p (q ∷ ps) (suc i) equal greater = last_reached k d q ps i equal greater

  in_range_of : (k : K) (leaf : Leaf K V) (ps : List (K × V)) (i : ℕ) → leaf.pairs ≡ ps → IsAscending cmp ps → HasEqualAt cmp ps k i → leaf_in_range cmp leaf k ≡ true
  in_range_of k leaf [] i is ascending equal = absurd equal
  in_range_of k leaf (p ∷ ps) i is ascending equal =
      let hit = (hit_at cmp total (p ∷ ps) ascending k i p equal).1 in
      let first : reaches_first cmp (leaf_keys leaf) k ≡ true = rw is (first_reached k (p ∷ ps) i equal hit.smaller) in
      let last : reaches_last cmp (leaf_keys leaf) k ≡ true = rw is (last_reached k p.0 p ps i equal hit.greater) in
      rw (first, last, or-true (is_none leaf.prev), or-true (is_none leaf.next)) refl

  -- a present leaf that has an equal key passes the test for the key
  pub holds_equal : (k : K) (id : LeafNodeId) (leaf : Leaf K V) (i : ℕ) → slots.leaf id.0 ≡ Present leaf → HasEqualAt cmp leaf.pairs k i → HoldsKey cmp (slots.leaf id.0) k
  holds_equal k id leaf i here equal =
      rw here (in_range_of k leaf leaf.pairs i refl (ascends id leaf (present_is_leaf_of total is_summary slots h root shape id leaf here) here) equal)

  -- a position of a present leaf that has an equal key is the key's position
  pub equal_at : (k : K) (id : LeafNodeId) (leaf : Leaf K V) (i : ℕ) → slots.leaf id.0 ≡ Present leaf → HasEqualAt cmp leaf.pairs k i → length leaf.pairs ≤ 64 → IsIndexAt cmp slots h root k id (Ok i)
  equal_at k id leaf i here equal fits =
      let sorted : IsAscending cmp leaf.pairs = ascends id leaf (present_is_leaf_of total is_summary slots h root shape id leaf here) here in
      hinted_at k id leaf (Ok i) true here (sym (in_range_of k leaf leaf.pairs i refl sorted equal)) refl (λ up. equal) fits

  module _ (k : K) (id : LeafNodeId) (index : Result ℕ ℕ) (at : IsIndexAt cmp slots h root k id index) where
    abbrev in' : IsLeafOf slots h root id
    in' = at.for_key.stored

    abbrev here : List (K × V)
    here = leaf_pairs (slots.leaf id.0)

    -- the leaf of the position is present
    pub present_there : IsPresent (slots.leaf id.0)
    present_there = in'.present

    -- the keys of the leaf ascend
    pub index_ascends : IsAscending cmp here
    index_ascends = held (slots.leaf id.0) refl in'.present
      where
        held : (s : Slot (Leaf K V)) → slots.leaf id.0 ≡ s → IsPresent s → IsAscending cmp (leaf_pairs s)
        held Free is there = absurd there
        held Held is there = absurd there
        held (Present leaf) is there = ascends id leaf in' is

    links : AreLinked slots None (in'.before ++ id ∷ in'.after) None
    links = subst (λ ids. AreLinked slots None ids None) in'.leaves shape.linked

    next_is : leaf_next (slots.leaf id.0) ≡ first_or None in'.after
    next_is = linked_next slots None in'.before id in'.after None links

    prev_is : leaf_prev (slots.leaf id.0) ≡ last_or None in'.before
    prev_is = linked_prev slots None in'.before id in'.after None links

    -- the slot is at most the length of the leaf
    within_leaf : index_of_result index ≤ length here
    within_leaf = index_within cmp total here index_ascends k index at.index_is

    -- the pair behind the slot of a key is the one with the least greater key
    next_beside : slice_get (drop (child_index index) here ++ leaf_pairs_of slots (leaf_next (slots.leaf id.0))) 0 ≡ next cmp (pairs_at slots h root) k
    next_beside =
        let around : pairs_above cmp (pairs_at slots h root) k ≡ drop (child_index index) here ++ pairs_of slots in'.after =
        ap (λ l. pairs_above cmp l k) (parts_of slots h root id in')
        ∙ (pairs_above_around cmp k (pairs_of slots in'.before) here (pairs_of slots in'.after) at.for_key.smaller at.for_key.greater
        ∙ ap (λ l. l ++ pairs_of slots in'.after) (above_from cmp total here index_ascends k index at.index_is)) in
        ap (λ o. slice_get (drop (child_index index) here ++ leaf_pairs_of slots o) 0) next_is
        ∙ (first_behind slots (drop (child_index index) here) in'.after (others_have slots cmp h root id in' shape.tree).1
        ∙ ap (λ l. slice_get l 0) (sym around))

    next_found : (n : ℕ) (found : Option (K × V)) → n ≡ beside index true → found ≡ first_from slots (record { leaf = id; slot = n }) → found ≡ next cmp (pairs_at slots h root) k
    next_found n found is read = read ∙ (ap (λ m. slice_get (drop m here ++ leaf_pairs_of slots (leaf_next (slots.leaf id.0))) 0) (is ∙ behind_index index) ∙ next_beside)

    -- the pair at the slot of a key is the one with the least key that is not below it
    least_beside : slice_get (drop (index_of_result index) here ++ leaf_pairs_of slots (leaf_next (slots.leaf id.0))) 0 ≡ at_least cmp (pairs_at slots h root) k
    least_beside =
        let before = pairs_of slots in'.before in
        let after = pairs_of slots in'.after in
        let around : between cmp (pairs_at slots h root) (Some k) None ≡ drop (index_of_result index) here ++ after =
        ap (λ l. between cmp l (Some k) None) (parts_of slots h root id in')
        ∙ rw (filter-append, filter_none cmp k reaches Less before refl at.for_key.smaller, filter-append, filter_all cmp k reaches Greater after refl at.for_key.greater) (ap (λ l. l ++ after) (least_from cmp total here index_ascends k index at.index_is)) in
        ap (λ o. slice_get (drop (index_of_result index) here ++ leaf_pairs_of slots o) 0) next_is
        ∙ (first_behind slots (drop (index_of_result index) here) in'.after (others_have slots cmp h root id in' shape.tree).1
        ∙ ap (λ l. slice_get l 0) (sym around))

    least_found : (n : ℕ) (found : Option (K × V)) → n ≡ beside index false → found ≡ first_from slots (record { leaf = id; slot = n }) → found ≡ at_least cmp (pairs_at slots h root) k
    least_found n found is read = read ∙ (ap (λ m. slice_get (drop m here ++ leaf_pairs_of slots (leaf_next (slots.leaf id.0))) 0) (is ∙ before_index index) ∙ least_beside)

    pub found_beside : (after : Bool) (n : ℕ) (found : Option (K × V)) → n ≡ beside index after → found ≡ first_from slots (record { leaf = id; slot = n }) → found ≡ first_beside cmp (pairs_at slots h root) k after
    found_beside true = next_found
    found_beside false = least_found

    -- the pair before the slot of a key is the one with the greatest smaller key
    previous_beside : last_member (leaf_pairs_of slots (leaf_prev (slots.leaf id.0)) ++ take (index_of_result index) here) ≡ previous cmp (pairs_at slots h root) k
    previous_beside =
        let around : pairs_below cmp (pairs_at slots h root) k ≡ pairs_of slots in'.before ++ take (index_of_result index) here =
        ap (λ l. pairs_below cmp l k) (parts_of slots h root id in')
        ∙ (pairs_below_around cmp k (pairs_of slots in'.before) here (pairs_of slots in'.after) at.for_key.smaller at.for_key.greater
        ∙ ap (λ l. pairs_of slots in'.before ++ l) (below_upto cmp total here index_ascends k index at.index_is)) in
        ap (λ o. last_member (leaf_pairs_of slots o ++ take (index_of_result index) here)) prev_is
        ∙ (last_before slots in'.before (take (index_of_result index) here) (others_have slots cmp h root id in' shape.tree).0
        ∙ ap (λ (l : List (K × V)). slice_get l (length l - 1)) (sym around))

    pub previous_found : (n : ℕ) (found : Option (K × V)) → n ≡ beside index false → found ≡ last_upto slots (record { leaf = id; slot = n }) → found ≡ previous cmp (pairs_at slots h root) k
    previous_found n found is read =
        read ∙ (ap (λ m. last_member (leaf_pairs_of slots (leaf_prev (slots.leaf id.0)) ++ take m here)) (is ∙ before_index index) ∙ previous_beside)

    pub slot_fits : index_of_result index ≤ 64
    slot_fits = omega (arith, within_leaf, at.fits)

    pub slot_within_leaf : (n : ℕ) → n ≡ beside index false → n ≤ length here
    slot_within_leaf n is = omega (arith, is, before_index index, within_leaf)

    module _ (leaf : Leaf K V) (read : slots.leaf id.0 ≡ Present leaf) where
      pairs_are : here ≡ leaf.pairs
      pairs_are = ap leaf_pairs read

      whole : value cmp (pairs_at slots h root) k ≡ value cmp leaf.pairs k
      whole = value_in_leaf total slots h root k id leaf at.for_key read

      abbrev IsHere : Result ℕ ℕ → Type 0
      IsHere r = IsIndexOf cmp leaf.pairs k r

      reported : (r : Result ℕ ℕ) → index ≡ r → IsHere r
      reported r is = subst (λ l. IsIndexOf cmp l k r) pairs_are (subst (IsIndexOf cmp here k) is at.index_is)

      -- the slot of a key that was found is that of a pair
      pub slot_there : (i : ℕ) → index ≡ Ok i → i < length leaf.pairs
      slot_there i is = let pair = pair_found cmp total leaf.pairs (ascends id leaf in' read) k i (reported (Ok i) is) in slice_get_within leaf.pairs i pair.0 pair.1

      -- the value at the slot is the key's value
      pub value_found : (i : ℕ) (pair : K × V) → index ≡ Ok i → slice_get leaf.pairs i ≡ Some pair → Some pair.1 ≡ value cmp (pairs_at slots h root) k
      value_found i pair is at' = sym (whole ∙ value_there cmp total leaf.pairs (ascends id leaf in' read) k i pair (reported (Ok i) is) at')

    -- a key that was not found is absent
    pub lacks_key : (i : ℕ) → index ≡ Err i → has cmp (pairs_at slots h root) k ≡ false
    lacks_key i is = missing (slots.leaf id.0) refl in'.present
      where
        missing : (s : Slot (Leaf K V)) → slots.leaf id.0 ≡ s → IsPresent s → has cmp (pairs_at slots h root) k ≡ false
        missing Free e there = absurd there
        missing Held e there = absurd there
        missing (Present leaf) e there = absent_there total is_summary slots h root k id leaf shape at.for_key e (reported leaf e (Err i) is).0

    pub value_missing : (i : ℕ) → index ≡ Err i → None ≡ value cmp (pairs_at slots h root) k
    value_missing i is = missing (slots.leaf id.0) refl in'.present
      where
        missing : (s : Slot (Leaf K V)) → slots.leaf id.0 ≡ s → IsPresent s → None ≡ value cmp (pairs_at slots h root) k
        missing Free e there = absurd there
        missing Held e there = absurd there
        missing (Present leaf) e there = sym (whole leaf e ∙ value_absent cmp total leaf.pairs (ascends id leaf in' e) k i (reported leaf e (Err i) is))

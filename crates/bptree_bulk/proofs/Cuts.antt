-- The pairs of leaves one after another, and where leaves are cut.
use Rattle.std.proofs.Common.{◌≡◌, ◌∙◌, ◌+◌, ◌-◌, ◌<◌, ◌≤◌, ℕ, zero, suc, inl, inr, ap, refl, Some, List, [], ◌∷◌, ◌++◌, length, take, drop, arith, append-nil, length-append, slice_index_or}
use Rattle.std.proofs.Math.Seq.{drop-append-add, take-append-add, take-append_seam}
use Rattle.std.proofs.lemmas.Bool.Decides.{eqb_tells}
use Rattle.std.specs.List.{AllByRecursion, slice_get}
use Rattle.bptree_bulk_load.specs.Rooms.{pairs_under}
use Rattle.bptree_bulk_load.proofs.LeafIds.{all_at, take_on}
use Rattle.bptree_bulk_load.proofs.Standing.{drop_on}
use Rattle.bptree_bulk.specs.Cut.{first_key, pairs_before, BeginsBorder, EndsBorder, IsCut, IsHalf}
use Rattle.bptree_keys.specs.declared.node_id.LeafNodeId.{LeafNodeId}
use Rattle.bptree_nodes.specs.Inner.{Inner}
use Rattle.bptree_nodes.specs.Leaf.{Leaf}
use Rattle.bptree_nodes.specs.Slot.{Slots}
use Rattle.bptree_invariant.specs.Leaves.{pairs_of}
use Rattle.bptree_invariant.specs.Shape.{leaf_pairs}
use Rattle.bptree_invariant.proofs.Walk.{flat-append}

module _ {K V : Type 0} where
  -- the key at an index of a list is the first of those from it on
  pub key_here : (pairs rest : List (K × V)) (i : ℕ) (k : K) (v : V) → slice_get pairs i ≡ Some (k, v) → first_key (drop i (pairs ++ rest)) ≡ Some k
  key_here [] rest i k v at = cc
  key_here (p ∷ pairs) rest zero k v at = let same : p ≡ (k, v) = cc in ap (λ q. Some q.0) same
  key_here (p ∷ pairs) rest (suc i) k v at = key_here pairs rest i k v at

pub drop_past : {X : Type 0} (xs ys : List X) (n : ℕ) → length xs ≤ n → drop n (xs ++ ys) ≡ drop (n - length xs) ys
drop_past xs ys n within = let parts : n ≡ length xs + (n - length xs) = omega (arith, within) in ap (λ m. drop m (xs ++ ys)) parts ∙ drop-append-add xs ys (n - length xs)

module _ {K V A : Type 0} (slots : Slots (Inner K A) (Leaf K V)) where
  pub pairs_on : (xs ys : List LeafNodeId) → pairs_of slots (xs ++ ys) ≡ pairs_of slots xs ++ pairs_of slots ys
  pairs_on xs ys = flat-append (λ (id : LeafNodeId). leaf_pairs (slots.leaf id.0)) xs ys

  -- the pairs of a leaf and of those behind it are the leaf's pairs, and then the others'
  pub pairs_from : (ids : List LeafNodeId) (i : ℕ) (d : LeafNodeId) → i < length ids → pairs_of slots (drop i ids) ≡ pairs_under slots (slice_index_or ids i d) ++ pairs_of slots (drop (i + 1) ids)
  pairs_from ids i d within = ap (pairs_of slots) (drop_on ids i d within)

  pub next_pairs : (ids : List LeafNodeId) (i : ℕ) (d : LeafNodeId) → i < length ids → pairs_before slots ids (i + 1) ≡ pairs_before slots ids i + length (pairs_under slots (slice_index_or ids i d))
  next_pairs ids i d within =
      let here = pairs_under slots (slice_index_or ids i d) in
      ap (λ l. length (pairs_of slots l)) (take_on ids i d within)
      ∙ (ap length (pairs_on (take i ids) (slice_index_or ids i d ∷ []))
      ∙ (length-append (pairs_of slots (take i ids)) (here ++ []) ∙ ap (λ l. pairs_before slots ids i + length l) (append-nil here)))

  pub least_at : (least : ℕ) (ids : List LeafNodeId) (i : ℕ) (d : LeafNodeId) → i < length ids → AllByRecursion (λ id. least ≤ length (pairs_under slots id)) ids → least ≤ length (pairs_under slots (slice_index_or ids i d))
  least_at least ids i d within all = all_at (λ id. least ≤ length (pairs_under slots id)) ids i d within all

take_all : {X : Type 0} (xs : List X) → take (length xs) xs ≡ xs
take_all [] = refl
take_all (x ∷ xs) = ap (λ l. x ∷ l) (take_all xs)

module _ {K V A : Type 0} (slots : Slots (Inner K A) (Leaf K V)) (ids : List LeafNodeId) where
  -- before a leaf are as many pairs as the leaves before it have; up to its end, its own pairs more
  pub at_leaf : (before : List LeafNodeId) (leaf : LeafNodeId) (after : List LeafNodeId) → ids ≡ before ++ leaf ∷ after
      → (pairs_before slots ids (length before) ≡ length (pairs_of slots before)) × (pairs_before slots ids (length before + 1) ≡ length (pairs_of slots before) + length (pairs_under slots leaf)) × (length before + 1 ≤ length ids)
  at_leaf before leaf after are =
      let one : take (length before) ids ≡ before = ap (take (length before)) are ∙ take-append_seam before (leaf ∷ after) in
      let two : take (length before + 1) ids ≡ before ++ leaf ∷ [] = ap (take (length before + 1)) are ∙ take-append-add before (leaf ∷ after) 1 in (
        ap (λ l. length (pairs_of slots l)) one,
        ap (λ l. length (pairs_of slots l)) two ∙ (ap length (pairs_on slots before (leaf ∷ [])) ∙ (length-append (pairs_of slots before) (pairs_under slots leaf ++ []) ∙ ap (λ l. length (pairs_of slots before) + length l) (append-nil (pairs_under slots leaf)))),
        omega (arith, ap length are, length-append before (leaf ∷ after)),
      )

  pub all_pairs_before : pairs_before slots ids (length ids) ≡ length (pairs_of slots ids)
  all_pairs_before = ap (λ l. length (pairs_of slots l)) (take_all ids)

  -- the cut at a slot of a leaf
  module _ (i slot here from before to after half half' : ℕ) (begins : BeginsBorder slots ids i from before) (ends : EndsBorder slots ids (i + 1) to after) (pairs : pairs_before slots ids (i + 1) ≡ pairs_before slots ids i + here) (within : slot ≤ here) (there : i + 1 ≤ length ids)
      (full : 1 < length ids → AllByRecursion (λ (id : LeafNodeId). 16 ≤ length (pairs_under slots id)) ids) (first : 0 < pairs_before slots ids i + slot) (last : pairs_before slots ids i + slot < length (pairs_of slots ids)) where
    below_enough : 0 < i → 16 ≤ before + slot
    below_enough some = omega (arith, begins.enough some 16 (full (omega (arith, some, there))))

    above_enough : i + 1 < length ids → 16 ≤ here - slot + after
    above_enough more = omega (arith, ends.enough more 16 (full (omega (arith, more))))

    pub cut_made : IsHalf (before + slot) half → IsHalf (here - slot + after) half' → IsCut slots ids (record { from = from; to = to; below = before + slot; below_half = half; above = here - slot + after; above_half = half' })
    cut_made is_half is_half' = record {
      order = omega (arith, begins.order, ends.order);
      within = ends.within;
      border = omega (arith, begins.sum, ends.sum, pairs, within);
      below_some = elim (eqb_tells i 0) [
        | inl none ↦ omega (arith, first, pairs_none none.1)
        | inr some ↦ omega (arith, below_enough (omega (arith, some.1)))
      ];
      below_enough = λ some. below_enough (omega (arith, some, begins.order));
      above_some = elim (eqb_tells (i + 1) (length ids)) [
        | inl end ↦ omega (arith, last, pairs, all_pairs_before, ap (pairs_before slots ids) end.1, within)
        | inr more ↦ omega (arith, above_enough (omega (arith, more.1, there)))
      ];
      above_enough = λ more. above_enough (omega (arith, more, ends.order));
      below_half = is_half;
      above_half = is_half';
    }
      where
        pairs_none : i ≡ 0 → pairs_before slots ids i ≡ 0
        pairs_none none = ap (pairs_before slots ids) none

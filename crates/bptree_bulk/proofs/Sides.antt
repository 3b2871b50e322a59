-- The parts of both sides of a cut are all pairs, and each makes a leaf of its own.
use Rattle.std.proofs.Common.{◌≡◌, ◌∙◌, ◌+◌, ◌-◌, ◌<◌, ◌≤◌, ◌^◌, ℕ, zero, suc, inl, inr, sym, ap, subst, refl, List, [], ◌∷◌, ◌++◌, length, map, take, drop, arith, append_assoc, append-nil, length-append}
use Rattle.std.proofs.Math.Seq.{drop-length, take-add, take-append_seam}
use Rattle.std.proofs.lemmas.Bool.Decides.{eqb_tells}
use Rattle.std.proofs.lemmas.List.{length-drop, length-take-le, take-append-drop, take_rest}
use Rattle.std.specs.declared.cmp.Ordering.{Ordering}
use Rattle.std.specs.Cmp.{IsTotalOrder}
use Rattle.std.specs.List.{AllByRecursion}
use Rattle.bptree_bulk_load.specs.Rooms.{joined, pairs_under, AreAllPlanned, ArePlanned}
use Rattle.bptree_bulk_load.specs.declared.subtree.Subtree.{Subtree}
use Rattle.bptree_bulk.specs.Cut.{cut_at, from_cut, lower_parts, pairs_before, pieces, upper_parts, IsCut, IsHalf}
use Rattle.bptree_bulk.specs.declared.cut.Cut.{Cut}
use Rattle.bptree_bulk.proofs.Cuts.{pairs_on}
use Rattle.bptree_bulk.proofs.Segments.{drop_more}
use Rattle.bptree_keys.specs.Contents.{IsAscending}
use Rattle.bptree_keys.specs.Ranges.{part}
use Rattle.bptree_keys.specs.declared.node_id.LeafNodeId.{LeafNodeId}
use Rattle.bptree_keys.proofs.PieceLemmas.{AllByRecursion-append, AllByRecursion-left, AllByRecursion-right}
use Rattle.bptree_nodes.specs.Inner.{Inner}
use Rattle.bptree_nodes.specs.Leaf.{Leaf}
use Rattle.bptree_nodes.specs.Slot.{Slots}
use Rattle.bptree_invariant.specs.Leaves.{pairs_of}
use Rattle.bptree_invariant.proofs.Ordered.{ascending_after}
use Rattle.bptree_invariant.proofs.Spot.{ascending_before}
use Rattle.bptree_invariant.proofs.Walk.{flat-append}

module _ {X : Type 0} where
  pub joined_pieces : (half : ℕ) (l : List X) → joined (pieces half l) ≡ l
  joined_pieces zero l = append-nil l
  joined_pieces (suc n) l = ap (λ r. take (suc n) l ++ r) (append-nil (drop (suc n) l)) ∙ take-append-drop (suc n) l

  some_pieces : (half : ℕ) (l : List X) → 0 < length (pieces half l)
  some_pieces zero l = omega arith
  some_pieces (suc n) l = omega arith

  -- each piece is large enough if the whole is
  enough_pieces : (half count : ℕ) (l : List X) → IsHalf count half → length l ≡ count → (half ≡ 0 → 16 ≤ count) → AllByRecursion (λ (p : List X). 16 ≤ length p) (pieces half l)
  enough_pieces zero count l is long enough = (omega (arith, long, enough refl), tt)
  enough_pieces (suc n) count l is long enough =
      let two = is.two (omega arith) in (
        omega (arith, two.0, length-take-le (suc n) l (omega (arith, two.2, long))),
        (omega (arith, two.2, long, length-drop (suc n) l), tt),
      )

  -- if the pieces are two, both are large enough
  several_pieces : (half count : ℕ) (l : List X) → IsHalf count half → length l ≡ count → 1 < length (pieces half l) → AllByRecursion (λ (p : List X). 16 ≤ length p) (pieces half l)
  several_pieces zero count l is long several = absurd (omega (arith, several))
  several_pieces (suc n) count l is long several = enough_pieces (suc n) count l is long (λ none. absurd (omega (arith, none)))

  pub all_taken : (P : X → Type 0) (n : ℕ) (xs : List X) → AllByRecursion P xs → AllByRecursion P (take n xs)
  all_taken P n xs all = AllByRecursion-left P (take n xs) (drop n xs) (subst (AllByRecursion P) (sym (take-append-drop n xs)) all)

  pub all_dropped : (P : X → Type 0) (n : ℕ) (xs : List X) → AllByRecursion P xs → AllByRecursion P (drop n xs)
  all_dropped P n xs all = AllByRecursion-right P (take n xs) (drop n xs) (subst (AllByRecursion P) (sym (take-append-drop n xs)) all)

  -- a property of several members holds of the first n and of the last ones, if some are taken only
  -- of several
  pub several_taken : (P : X → Type 0) (n : ℕ) (xs : List X) → (1 < length xs → AllByRecursion P xs) → (0 < n → 1 < length xs) → AllByRecursion P (take n xs)
  several_taken P n xs all several = elim (eqb_tells n 0) [
    | inl none ↦ subst (λ m. AllByRecursion P (take m xs)) (sym none.1) tt
    | inr some ↦ all_taken P n xs (all (several (omega (arith, some.1))))
  ]

  pub several_dropped : (P : X → Type 0) (n : ℕ) (xs : List X) → n ≤ length xs → (1 < length xs → AllByRecursion P xs) → (n < length xs → 1 < length xs) → AllByRecursion P (drop n xs)
  several_dropped P n xs within all several = elim (eqb_tells n (length xs)) [
    | inl end ↦ subst (AllByRecursion P) (sym (ap (λ m. drop m xs) end.1 ∙ drop-length xs)) tt
    | inr more ↦ all_dropped P n xs (all (several (omega (arith, more.1, within))))
  ]

module _ {K V A : Type 0} (slots : Slots (Inner K A) (Leaf K V)) where
  pub joined_leaves : (xs : List LeafNodeId) → joined (map (pairs_under slots) xs) ≡ pairs_of slots xs
  joined_leaves [] = refl
  joined_leaves (x ∷ xs) = ap (λ l. pairs_under slots x ++ l) (joined_leaves xs)

  pub enough_leaves : (xs : List LeafNodeId) → AllByRecursion (λ (id : LeafNodeId). 16 ≤ length (pairs_under slots id)) xs → AllByRecursion (λ (p : List (K × V)). 16 ≤ length p) (map (pairs_under slots) xs)
  enough_leaves [] all = tt
  enough_leaves (x ∷ xs) all = (all.0, enough_leaves xs all.1)

  module _ (ids : List LeafNodeId) where
    pub split_at : (n : ℕ) → pairs_of slots ids ≡ pairs_of slots (take n ids) ++ pairs_of slots (drop n ids)
    split_at n = ap (pairs_of slots) (sym (take-append-drop n ids)) ∙ pairs_on slots (take n ids) (drop n ids)

    pub split_len : (n : ℕ) → length (pairs_of slots ids) ≡ pairs_before slots ids n + length (pairs_of slots (drop n ids))
    split_len n = ap length (split_at n) ∙ length-append (pairs_of slots (take n ids)) (pairs_of slots (drop n ids))

    module _ (cut : Cut) (is : IsCut slots ids cut) where
      abbrev pub l : List (K × V)
      l = from_cut slots ids cut

      abbrev pub border : List (K × V)
      border = pairs_of slots (take (cut.to - cut.from) (drop cut.from ids))

      ends : cut.to ≡ cut.from + (cut.to - cut.from)
      ends = omega (arith, is.order)

      pub border_len : length border ≡ cut.below + cut.above
      border_len =
          let both : take cut.to ids ≡ take cut.from ids ++ take (cut.to - cut.from) (drop cut.from ids) = ap (λ n. take n ids) ends ∙ take-add cut.from (cut.to - cut.from) ids in
          let long = ap (λ xs. length (pairs_of slots xs)) both ∙ (ap length (pairs_on slots (take cut.from ids) (take (cut.to - cut.from) (drop cut.from ids))) ∙ length-append (pairs_of slots (take cut.from ids)) border) in
          omega (arith, long, is.border)

      pub behind : drop cut.to ids ≡ drop (cut.to - cut.from) (drop cut.from ids)
      behind = ap (λ n. drop n ids) ends ∙ sym (drop_more cut.from (cut.to - cut.from) ids)

      pub from_border : l ≡ border ++ pairs_of slots (drop cut.to ids)
      from_border =
          ap (pairs_of slots) (sym (take-append-drop (cut.to - cut.from) (drop cut.from ids)))
          ∙ (pairs_on slots (take (cut.to - cut.from) (drop cut.from ids)) (drop (cut.to - cut.from) (drop cut.from ids)) ∙ ap (λ xs. border ++ pairs_of slots xs) (sym behind))

      -- the pairs from the cut on are at least the border's
      within_rest : cut.below + cut.above ≤ length l
      within_rest = omega (arith, border_len, ap length from_border, length-append border (pairs_of slots (drop cut.to ids)))

      pub within_slice : cut.below + cut.above ≤ length (pairs_of slots (take (length ids - cut.from) (drop cut.from ids)))
      within_slice = omega (arith, within_rest, ap (λ xs. length (pairs_of slots xs)) (take_rest ids cut.from))

      parts_are : part l 0 cut.below ++ part l cut.below cut.above ≡ border
      parts_are =
          sym (take-add cut.below cut.above l)
          ∙ (ap (λ n. take n l) (sym border_len) ∙ (ap (take (length border)) from_border ∙ take-append_seam border (pairs_of slots (drop cut.to ids))))

      below_len : length (part l 0 cut.below) ≡ cut.below
      below_len = length-take-le cut.below l (omega (arith, within_rest))

      above_len : length (part l cut.below cut.above) ≡ cut.above
      above_len = length-take-le cut.above (drop cut.below l) (omega (arith, within_rest, length-drop cut.below l))

      lower_all : joined (lower_parts slots ids cut) ≡ pairs_of slots (take cut.from ids) ++ part l 0 cut.below
      lower_all =
          flat-append (λ (p : List (K × V)). p) (map (pairs_under slots) (take cut.from ids)) (pieces cut.below_half (part l 0 cut.below))
          ∙ (ap (λ m. m ++ joined (pieces cut.below_half (part l 0 cut.below))) (joined_leaves (take cut.from ids)) ∙ ap (λ m. pairs_of slots (take cut.from ids) ++ m) (joined_pieces cut.below_half (part l 0 cut.below)))

      upper_all : joined (upper_parts slots ids cut) ≡ part l cut.below cut.above ++ pairs_of slots (drop cut.to ids)
      upper_all =
          flat-append (λ (p : List (K × V)). p) (pieces cut.above_half (part l cut.below cut.above)) (map (pairs_under slots) (drop cut.to ids))
          ∙ (ap (λ m. m ++ joined (map (pairs_under slots) (drop cut.to ids))) (joined_pieces cut.above_half (part l cut.below cut.above)) ∙ ap (λ m. part l cut.below cut.above ++ m) (joined_leaves (drop cut.to ids)))

      -- both sides are all pairs
      pub sides_are_all : pairs_of slots ids ≡ joined (lower_parts slots ids cut) ++ joined (upper_parts slots ids cut)
      sides_are_all =
          let first = pairs_of slots (take cut.from ids) in
          let last = pairs_of slots (drop cut.to ids) in
          split_at cut.from
          ∙ (ap (λ m. first ++ m) (from_border ∙ ap (λ m. m ++ last) (sym parts_are))
          ∙ (ap (λ m. first ++ m) (append_assoc (part l 0 cut.below) (part l cut.below cut.above) last)
          ∙ (sym (append_assoc first (part l 0 cut.below) (part l cut.below cut.above ++ last)) ∙ (ap (λ m. m ++ (part l cut.below cut.above ++ last)) (sym lower_all) ∙ ap (λ m. joined (lower_parts slots ids cut) ++ m) (sym upper_all)))))

      pub lower_len : length (joined (lower_parts slots ids cut)) ≡ cut_at slots ids cut
      lower_len = ap length lower_all ∙ (length-append (pairs_of slots (take cut.from ids)) (part l 0 cut.below) ∙ ap (λ n. pairs_before slots ids cut.from + n) below_len)

      between_ends : cut.from < cut.to
      between_ends = elim (eqb_tells cut.from cut.to) [
        | inl same ↦ absurd (omega (arith, is.border, is.below_some, ap (pairs_before slots ids) same.1))
        | inr other ↦ omega (arith, is.order, other.1)
      ]

      -- a property of all leaves, if there are several, holds of those before the border and behind
      -- it
      module _ (P : LeafNodeId → Type 0) (all : 1 < length ids → AllByRecursion P ids) where
        pub all_before : AllByRecursion P (take cut.from ids)
        all_before = several_taken P cut.from ids all (λ some. omega (arith, some, between_ends, is.within))

        pub all_behind : AllByRecursion P (drop cut.to ids)
        all_behind = several_dropped P cut.to ids is.within all (λ more. omega (arith, more, between_ends))

      module _ (full : 1 < length ids → AllByRecursion (λ (id : LeafNodeId). 16 ≤ length (pairs_under slots id)) ids) where
        abbrev IsEnough : List (K × V) → Type 0
        IsEnough p = 16 ≤ length p

        lower_many : 1 < length (lower_parts slots ids cut) → AllByRecursion IsEnough (lower_parts slots ids cut)
        lower_many several = elim (eqb_tells cut.from 0) [
          | inl none ↦ (
              let alone : lower_parts slots ids cut ≡ pieces cut.below_half (part l 0 cut.below) = ap (λ n. map (pairs_under slots) (take n ids) ++ pieces cut.below_half (part l 0 cut.below)) none.1 in
              subst (AllByRecursion IsEnough) (sym alone) (several_pieces cut.below_half cut.below (part l 0 cut.below) is.below_half below_len (subst (λ ps. 1 < length ps) alone several))
              )
          | inr some ↦ (
              AllByRecursion-append IsEnough (map (pairs_under slots) (take cut.from ids)) (pieces cut.below_half (part l 0 cut.below))
              (enough_leaves (take cut.from ids) (all_before (λ (id : LeafNodeId). 16 ≤ length (pairs_under slots id)) full))
              (enough_pieces cut.below_half cut.below (part l 0 cut.below) is.below_half below_len (λ one. is.below_enough (omega (arith, some.1))))
              )
        ]

        upper_many : 1 < length (upper_parts slots ids cut) → AllByRecursion IsEnough (upper_parts slots ids cut)
        upper_many several = elim (eqb_tells cut.to (length ids)) [
          | inl end ↦ (
              let alone : upper_parts slots ids cut ≡ pieces cut.above_half (part l cut.below cut.above) = ap (λ xs. pieces cut.above_half (part l cut.below cut.above) ++ map (pairs_under slots) xs) (ap (λ n. drop n ids) end.1 ∙ drop-length ids) ∙ append-nil (pieces cut.above_half (part l cut.below cut.above)) in
              subst (AllByRecursion IsEnough) (sym alone) (several_pieces cut.above_half cut.above (part l cut.below cut.above) is.above_half above_len (subst (λ ps. 1 < length ps) alone several))
              )
          | inr more ↦ (
              AllByRecursion-append IsEnough (pieces cut.above_half (part l cut.below cut.above)) (map (pairs_under slots) (drop cut.to ids))
              (enough_pieces cut.above_half cut.above (part l cut.below cut.above) is.above_half above_len (λ one. is.above_enough (omega (arith, more.1, is.within))))
              (enough_leaves (drop cut.to ids) (all_behind (λ (id : LeafNodeId). 16 ≤ length (pairs_under slots id)) full))
              )
        ]

        module _ {cmp : K → K → Ordering} (total : IsTotalOrder cmp) (is_summary : A → List K → Type 0) (ascending : IsAscending cmp (pairs_of slots ids)) (few : length (pairs_of slots ids) < 2 ^ 64) (new : Slots (Inner K A) (Leaf K V)) (own : List LeafNodeId) (trees : List (Subtree K A)) where
          pub lower_planned : ArePlanned cmp is_summary new own trees (lower_parts slots ids cut) → AreAllPlanned cmp is_summary new own trees (lower_parts slots ids cut)
          lower_planned planned = record {
            planned = planned;
            some = omega (arith, some_pieces cut.below_half (part l 0 cut.below), length-append (map (pairs_under slots) (take cut.from ids)) (pieces cut.below_half (part l 0 cut.below)));
            many = lower_many;
            ascending = ascending_before cmp (joined (lower_parts slots ids cut)) (joined (upper_parts slots ids cut)) (subst (IsAscending cmp) sides_are_all ascending);
            few = omega (arith, few, ap length sides_are_all, length-append (joined (lower_parts slots ids cut)) (joined (upper_parts slots ids cut)));
          }

          pub upper_planned : ArePlanned cmp is_summary new own trees (upper_parts slots ids cut) → AreAllPlanned cmp is_summary new own trees (upper_parts slots ids cut)
          upper_planned planned = record {
            planned = planned;
            some = omega (arith, some_pieces cut.above_half (part l cut.below cut.above), length-append (pieces cut.above_half (part l cut.below cut.above)) (map (pairs_under slots) (drop cut.to ids)));
            many = upper_many;
            ascending = ascending_after total (joined (lower_parts slots ids cut)) (joined (upper_parts slots ids cut)) (subst (IsAscending cmp) sides_are_all ascending);
            few = omega (arith, few, ap length sides_are_all, length-append (joined (lower_parts slots ids cut)) (joined (upper_parts slots ids cut)));
          }

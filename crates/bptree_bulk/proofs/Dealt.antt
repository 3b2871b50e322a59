-- The leaves of a tree that are dealt to both sides of a cut.
use Rattle.std.proofs.Common.{◌≡◌, ◌∙◌, ◌-◌, ℕ, zero, suc, sym, ap, refl, List, [], ◌∷◌, ◌++◌, length, map, take, drop, arith}
use Rattle.std.proofs.Math.Seq.{drop-append_seam, take-append_seam}
use Rattle.std.proofs.lemmas.List.{drop-append-le, length-drop, take-append-le, take_rest}
use Rattle.std.specs.declared.alloc.Global.{Global}
use Rattle.std.specs.declared.boxed.Box.{Box}
use Rattle.bptree_bulk_load.specs.Rooms.{joined, pairs_under, parts_of}
use Rattle.bptree_bulk_load.proofs.LeafIds.{map_on}
use Rattle.bptree_bulk.specs.Cut.{cut_at, lower_parts, pieces, upper_parts, IsCut}
use Rattle.bptree_bulk.specs.declared.cut.Cut.{Cut}
use Rattle.bptree_bulk.proofs.Segments.{drop_more}
use Rattle.bptree_bulk.proofs.Sides.{border, border_len, from_border, joined_leaves, l, lower_len, sides_are_all}
use Rattle.bptree_keys.specs.Ranges.{part}
use Rattle.bptree_keys.specs.declared.node_id.LeafNodeId.{LeafNodeId}
use Rattle.bptree_nodes.specs.Inner.{Inner}
use Rattle.bptree_nodes.specs.Leaf.{Leaf}
use Rattle.bptree_nodes.specs.Slot.{Slots}
use Rattle.bptree_invariant.specs.Leaves.{pairs_of}

module _ {X Y : Type 0} (f : X → Y) where
  map_taken : (n : ℕ) (xs : List X) → map f (take n xs) ≡ take n (map f xs)
  map_taken zero xs = refl
  map_taken (suc n) [] = refl
  map_taken (suc n) (x ∷ xs) = ap (λ m. f x ∷ m) (map_taken n xs)

  map_dropped : (n : ℕ) (xs : List X) → map f (drop n xs) ≡ drop n (map f xs)
  map_dropped zero xs = refl
  map_dropped (suc n) [] = refl
  map_dropped (suc n) (x ∷ xs) = map_dropped n xs

  map_long : (xs : List X) → length (map f xs) ≡ length xs
  map_long [] = refl
  map_long (x ∷ xs) = ap suc (map_long xs)

abbrev pub pairs_in : {K V : Type 0} → Box (Leaf K V) Global → List (K × V)
pairs_in leaf = leaf.value.pairs

-- leaves that were stored under some ids
module _ {K V A : Type 0} (slots : Slots (Inner K A) (Leaf K V)) (ids : List LeafNodeId) (boxes : List (Box (Leaf K V) Global)) (all : parts_of boxes ≡ map (pairs_under slots) ids) where
  pub parts_taken : (n : ℕ) → parts_of (take n boxes) ≡ map (pairs_under slots) (take n ids)
  parts_taken n = map_taken pairs_in n boxes ∙ (ap (take n) all ∙ sym (map_taken (pairs_under slots) n ids))

  pub parts_dropped : (n : ℕ) → parts_of (drop n boxes) ≡ map (pairs_under slots) (drop n ids)
  parts_dropped n = map_dropped pairs_in n boxes ∙ (ap (drop n) all ∙ sym (map_dropped (pairs_under slots) n ids))

  pub as_long : length boxes ≡ length ids
  as_long = sym (map_long pairs_in boxes) ∙ (ap length all ∙ map_long (pairs_under slots) ids)

  -- the pairs of the next leaves from one on
  pub poured_part : (from count : ℕ) → joined (parts_of (take count (drop from boxes))) ≡ pairs_of slots (take count (drop from ids))
  poured_part from count =
      let these : parts_of (take count (drop from boxes)) ≡ map (pairs_under slots) (take count (drop from ids)) =
      map_taken pairs_in count (drop from boxes) ∙ (ap (take count) (parts_dropped from) ∙ sym (map_taken (pairs_under slots) count (drop from ids))) in
      ap joined these ∙ joined_leaves slots (take count (drop from ids))

module _ {K V A : Type 0} (slots : Slots (Inner K A) (Leaf K V)) (ids : List LeafNodeId) (cut : Cut) (is : IsCut slots ids cut) (boxes : List (Box (Leaf K V) Global)) (all : parts_of boxes ≡ map (pairs_under slots) ids) where
  -- the pairs of the border's leaves
  pub poured_border : joined (parts_of (take (cut.to - cut.from) (drop cut.from boxes))) ≡ border slots ids cut is
  poured_border = poured_part slots ids boxes all cut.from (cut.to - cut.from)

  abbrev pub last : List (K × V)
  last = pairs_of slots (drop cut.to ids)

  below_same : take cut.below (border slots ids cut is) ≡ part (l slots ids cut is) 0 cut.below
  below_same = sym (ap (take cut.below) (from_border slots ids cut is) ∙ take-append-le cut.below (border slots ids cut is) last (omega (arith, border_len slots ids cut is)))

  above_same : take cut.above (drop cut.below (border slots ids cut is)) ≡ part (l slots ids cut is) cut.below cut.above
  above_same =
      let edge = border slots ids cut is in
      sym (
      ap (λ m. take cut.above (drop cut.below m)) (from_border slots ids cut is)
      ∙ (ap (take cut.above) (drop-append-le cut.below edge last (omega (arith, border_len slots ids cut is))) ∙ take-append-le cut.above (drop cut.below edge) last (omega (arith, border_len slots ids cut is, length-drop cut.below edge)))
      )

  -- the leaves of the lower side
  pub lower_dealt : (none one two : List (Box (Leaf K V) Global)) (pairs : List (K × V)) → none ≡ [] → one ≡ none ++ take cut.from boxes → pairs ≡ border slots ids cut is → parts_of two ≡ parts_of one ++ pieces cut.below_half (take cut.below pairs) → parts_of two ≡ lower_parts slots ids cut
  lower_dealt none one two pairs empty first are second =
      let moved : one ≡ take cut.from boxes = first ∙ ap (λ m. m ++ take cut.from boxes) empty in
      second
      ∙ (ap (λ m. m ++ pieces cut.below_half (take cut.below pairs)) (ap parts_of moved ∙ parts_taken slots ids boxes all cut.from)
      ∙ ap (λ m. map (pairs_under slots) (take cut.from ids) ++ pieces cut.below_half m) (ap (take cut.below) are ∙ below_same))

  -- the leaves of the upper side
  pub upper_dealt : (none one two rest : List (Box (Leaf K V) Global)) (items pairs : List (K × V)) (count : ℕ) → none ≡ [] → pairs ≡ border slots ids cut is → items ≡ drop cut.below pairs → parts_of one ≡ parts_of none ++ pieces cut.above_half (take cut.above items)
      → rest ≡ drop (cut.to - cut.from) (drop cut.from boxes) → count ≡ length ids - cut.to → two ≡ one ++ take count rest → parts_of two ≡ upper_parts slots ids cut
  upper_dealt none one two rest items pairs count empty are behind' first rest_is count_is second =
      let same : drop (cut.to - cut.from) (drop cut.from boxes) ≡ drop cut.to boxes = drop_more cut.from (cut.to - cut.from) boxes ∙ ap (λ n. drop n boxes) (omega (arith, is.order)) in
      let left : take count rest ≡ drop cut.to boxes = ap (take count) (rest_is ∙ same) ∙ (ap (λ n. take n (drop cut.to boxes)) (count_is ∙ ap (λ n. n - cut.to) (sym (as_long slots ids boxes all))) ∙ take_rest boxes cut.to) in
      let given : take cut.above items ≡ part (l slots ids cut is) cut.below cut.above = ap (take cut.above) (behind' ∙ ap (drop cut.below) are) ∙ above_same in
      ap parts_of (second ∙ ap (λ m. one ++ m) left)
      ∙ (map_on pairs_in one (drop cut.to boxes)
      ∙ (ap (λ m. m ++ parts_of (drop cut.to boxes)) (first ∙ (ap (λ m. parts_of m ++ pieces cut.above_half (take cut.above items)) empty ∙ ap (pieces cut.above_half) given))
      ∙ ap (λ m. pieces cut.above_half (part (l slots ids cut is) cut.below cut.above) ++ m) (parts_dropped slots ids boxes all cut.to)))

-- what both sides have
module _ {K V A : Type 0} (slots : Slots (Inner K A) (Leaf K V)) (ids : List LeafNodeId) (cut : Cut) (is : IsCut slots ids cut) (n : ℕ) (index : cut_at slots ids cut ≡ n) where
  pub lower_pairs : joined (lower_parts slots ids cut) ≡ take n (pairs_of slots ids)
  lower_pairs = sym (ap (take n) (sides_are_all slots ids cut is) ∙ (ap (λ m. take m (joined (lower_parts slots ids cut) ++ joined (upper_parts slots ids cut))) (sym index ∙ sym (lower_len slots ids cut is)) ∙ take-append_seam (joined (lower_parts slots ids cut)) (joined (upper_parts slots ids cut))))

  pub upper_pairs : joined (upper_parts slots ids cut) ≡ drop n (pairs_of slots ids)
  upper_pairs = sym (ap (drop n) (sides_are_all slots ids cut is) ∙ (ap (λ m. drop m (joined (lower_parts slots ids cut) ++ joined (upper_parts slots ids cut))) (sym index ∙ sym (lower_len slots ids cut is)) ∙ drop-append_seam (joined (lower_parts slots ids cut)) (joined (upper_parts slots ids cut))))

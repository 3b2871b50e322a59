-- The pairs between two positions, and the leaves around them.
use Rattle.std.proofs.Common.{◌≡◌, ◌∙◌, ◌+◌, ◌-◌, ◌<◌, ◌≤◌, ℕ, inl, inr, sym, ap, List, ◌++◌, length, take, drop, arith, append_assoc, length-append}
use Rattle.std.proofs.Math.Seq.{drop-append-add, take-add, take-append-add, take-append_seam}
use Rattle.std.proofs.lemmas.Bool.Decides.{eqb_tells}
use Rattle.std.proofs.lemmas.List.{drop-append-le, length-drop, length-take-le, take-append-le}
use Rattle.std.specs.declared.cmp.Ordering.{Ordering}
use Rattle.std.specs.List.{AllByRecursion}
use Rattle.bptree_bulk_load.specs.Rooms.{pairs_under}
use Rattle.bptree_bulk.specs.Cut.{pairs_before, BeginsBorder, EndsBorder}
use Rattle.bptree_bulk.specs.Gap.{gap_begins, gap_ends, kept_of, without_part, IsGap}
use Rattle.bptree_bulk.specs.declared.gap.Gap.{Gap}
use Rattle.bptree_bulk.proofs.Cuts.{all_pairs_before, pairs_on}
use Rattle.bptree_bulk.proofs.Placed.{is_at}
use Rattle.bptree_bulk.proofs.Segments.{drop_more}
use Rattle.bptree_bulk.proofs.Sides.{split_at, split_len}
use Rattle.bptree_bulk.proofs.Tails.{by_size}
use Rattle.bptree_keys.specs.declared.node_id.LeafNodeId.{LeafNodeId}
use Rattle.bptree_keys.specs.declared.node_id.NodeId.{NodeId}
use Rattle.bptree_keys.specs.declared.node_id.Position.{Position}
use Rattle.bptree_nodes.specs.Inner.{Inner}
use Rattle.bptree_nodes.specs.Leaf.{Leaf}
use Rattle.bptree_nodes.specs.Slot.{Slots}
use Rattle.bptree_ranges.specs.Ranges.{ahead, index_on, IsIndexOn}
use Rattle.bptree_invariant.specs.Leaves.{pairs_of}
use Rattle.bptree_invariant.specs.Shape.{leaves_at, IsWellShaped}

-- a part that lies in the first of two lists, or in the second
module _ {X : Type 0} (before behind : ℕ) where
  part_in_first : (xs ys : List X) → before ≤ behind → behind ≤ length xs → without_part before behind (xs ++ ys) ≡ without_part before behind xs ++ ys
  part_in_first xs ys order within =
      ap (λ l. l ++ drop behind (xs ++ ys)) (take-append-le before xs ys (omega (arith, order, within)))
      ∙ (ap (λ l. take before xs ++ l) (drop-append-le behind xs ys within) ∙ sym (append_assoc (take before xs) (drop behind xs) ys))

  part_in_second : (xs ys : List X) → without_part (length xs + before) (length xs + behind) (xs ++ ys) ≡ xs ++ without_part before behind ys
  part_in_second xs ys =
      ap (λ l. l ++ drop (length xs + behind) (xs ++ ys)) (take-append-add xs ys before)
      ∙ (ap (λ l. (xs ++ take before ys) ++ l) (drop-append-add xs ys behind) ∙ append_assoc xs (take before ys) (drop behind ys))

  without_len : (xs : List X) → before ≤ behind → behind ≤ length xs → length (without_part before behind xs) + behind ≡ before + length xs
  without_len xs order within = omega (arith, length-append (take before xs) (drop behind xs), length-take-le before xs (omega (arith, order, within)), length-drop behind xs, within)

module _ {K V A : Type 0} (slots : Slots (Inner K A) (Leaf K V)) (ids : List LeafNodeId) where
  -- the leaves up to an index have no more pairs than all
  pub pairs_within : (n : ℕ) → pairs_before slots ids n ≤ length (pairs_of slots ids)
  pairs_within n = omega (arith, split_len slots ids n)

  -- the leaves before an index have as many pairs as those before a smaller one, and those between
  pub pairs_between : (a b : ℕ) → a ≤ b → pairs_before slots ids b ≡ pairs_before slots ids a + length (pairs_of slots (take (b - a) (drop a ids)))
  pairs_between a b order =
      let ends : b ≡ a + (b - a) = omega (arith, order) in
      ap (λ n. pairs_before slots ids n) ends
      ∙ (ap (λ xs. length (pairs_of slots xs)) (take-add a (b - a) ids)
      ∙ (ap length (pairs_on slots (take a ids) (take (b - a) (drop a ids))) ∙ length-append (pairs_of slots (take a ids)) (pairs_of slots (take (b - a) (drop a ids)))))

  pub pairs_rise : (a b : ℕ) → a ≤ b → pairs_before slots ids a ≤ pairs_before slots ids b
  pairs_rise a b order = omega (arith, pairs_between a b order)

  -- a leaf that ends behind the begin of another is this one or is behind it
  pub not_before : (i j slot slot' : ℕ) → pairs_before slots ids i + slot < pairs_before slots ids j + slot' → pairs_before slots ids j + slot' ≤ pairs_before slots ids (j + 1) → i ≤ j
  not_before i j slot slot' rises within = by_size i j (λ order. order) (λ less. absurd (omega (arith, rises, within, pairs_rise (j + 1) i (omega (arith, less)))))

  -- the gap from a slot of one leaf up to a slot of another
  module _ (i j slot slot' here from to first last inner : ℕ) (begins : BeginsBorder slots ids i from first) (ends : EndsBorder slots ids (j + 1) to last)
      (pairs : pairs_before slots ids (j + 1) ≡ pairs_before slots ids j + here) (within : slot' ≤ here) (there : j + 1 ≤ length ids) (order : i ≤ j)
      (rises : pairs_before slots ids i + slot < pairs_before slots ids j + slot')
      (some : pairs_before slots ids j + slot' < pairs_before slots ids i + slot + length (pairs_of slots ids))
      (between : pairs_before slots ids j ≡ pairs_before slots ids from + inner)
      (full : 1 < length ids → AllByRecursion (λ (id : LeafNodeId). 16 ≤ length (pairs_under slots id)) ids) where
    abbrev pub gap : Gap
    gap = record { from = from; to = to; before = first + slot; behind = inner + slot'; count = first + slot + (here - slot') + last }

    enough_before : 0 < i → 16 ≤ first + slot + (here - slot') + last
    enough_before more = omega (arith, begins.enough more 16 (full (omega (arith, more, there, order))))

    enough_behind : j + 1 < length ids → 16 ≤ first + slot + (here - slot') + last
    enough_behind more = omega (arith, ends.enough more 16 (full (omega (arith, more))))

    pub gap_made : IsGap slots ids gap
    gap_made = record {
      order = omega (arith, begins.order, ends.order, order);
      within = ends.within;
      rises = omega (arith, rises, begins.sum, between);
      stays = omega arith;
      border = omega (arith, begins.sum, ends.sum, pairs, within, between);
      some = elim (eqb_tells i 0) [
        | inl none ↦ elim (eqb_tells (j + 1) (length ids)) [
          | inl end ↦ omega (arith, some, pairs_none none.1, pairs, all_pairs_before slots ids, ap (pairs_before slots ids) end.1, within)
          | inr more ↦ omega (arith, enough_behind (omega (arith, more.1, there)))
        ]
        | inr more ↦ omega (arith, enough_before (omega (arith, more.1)))
      ];
      enough_before = λ more. enough_before (omega (arith, more, begins.order));
      enough_behind = λ more. enough_behind (omega (arith, more, ends.order));
    }
      where
        pairs_none : i ≡ 0 → pairs_before slots ids i ≡ 0
        pairs_none none = ap (pairs_before slots ids) none

  -- the pairs of the border, and those of the border that stay
  module _ (gap : Gap) (is : IsGap slots ids gap) where
    abbrev pub l : List (K × V)
    l = pairs_of slots (drop gap.from ids)

    abbrev pub edge : List (K × V)
    edge = pairs_of slots (take (gap.to - gap.from) (drop gap.from ids))

    pub border_is : l ≡ edge ++ pairs_of slots (drop gap.to ids)
    border_is =
        let ends : gap.to ≡ gap.from + (gap.to - gap.from) = omega (arith, is.order) in
        let behind : drop (gap.to - gap.from) (drop gap.from ids) ≡ drop gap.to ids = drop_more gap.from (gap.to - gap.from) ids ∙ ap (λ n. drop n ids) (sym ends) in
        split_at slots (drop gap.from ids) (gap.to - gap.from) ∙ ap (λ xs. edge ++ pairs_of slots xs) behind

    pub edge_len : length edge + gap.before ≡ gap.behind + gap.count
    edge_len = omega (arith, is.border, pairs_between gap.from gap.to (omega (arith, is.order)))

    pub behind_within : gap.behind ≤ length edge
    behind_within = omega (arith, edge_len, is.stays)

    edge_kept : length (without_part gap.before gap.behind edge) ≡ gap.count
    edge_kept = omega (arith, edge_len, without_len gap.before gap.behind edge is.rises behind_within)

    around_is : without_part gap.before gap.behind l ≡ without_part gap.before gap.behind edge ++ pairs_of slots (drop gap.to ids)
    around_is = ap (without_part gap.before gap.behind) border_is ∙ part_in_first gap.before gap.behind edge (pairs_of slots (drop gap.to ids)) is.rises behind_within

    pub kept_is : kept_of gap l ≡ without_part gap.before gap.behind edge
    kept_is =
        let stays = without_part gap.before gap.behind edge in
        ap (take gap.count) around_is ∙ (ap (λ n. take n (stays ++ pairs_of slots (drop gap.to ids))) (sym edge_kept) ∙ take-append_seam stays (pairs_of slots (drop gap.to ids)))

    pub kept_len : length (kept_of gap l) ≡ gap.count
    kept_len = ap length kept_is ∙ edge_kept

    -- the pairs from the border on are at least as many as the border's; so are those that stay
    pub behind_in_rest : gap.behind ≤ length l
    behind_in_rest = omega (arith, behind_within, ap length border_is, length-append edge (pairs_of slots (drop gap.to ids)))

    pub kept_within : gap.count ≤ length (without_part gap.before gap.behind l)
    kept_within = omega (arith, edge_kept, ap length around_is, length-append (without_part gap.before gap.behind edge) (pairs_of slots (drop gap.to ids)))

    -- what stays in all is all but the gap
    pub all_kept : pairs_of slots (take gap.from ids) ++ (kept_of gap l ++ pairs_of slots (drop gap.to ids)) ≡ without_part (gap_begins slots ids gap) (gap_ends slots ids gap) (pairs_of slots ids)
    all_kept =
        let first = pairs_of slots (take gap.from ids) in
        ap (λ xs. first ++ (xs ++ pairs_of slots (drop gap.to ids))) kept_is
        ∙ (ap (λ xs. first ++ xs) (sym around_is)
        ∙ (sym (part_in_second gap.before gap.behind first l) ∙ ap (without_part (gap_begins slots ids gap) (gap_ends slots ids gap)) (sym (split_at slots ids gap.from))))

-- two positions of a tree, the first before the second, among the ids of all leaves
module _ {K V A : Type 0} (slots : Slots (Inner K A) (Leaf K V)) (h : ℕ) (root : NodeId) (ids : List LeafNodeId) (lo hi : Position) (i j : ℕ) where
  pub record AreSpots : Type 0 where
    pub begin : pairs_before slots ids i + lo.slot ≡ index_on slots h root lo
    pub end : pairs_before slots ids j + hi.slot ≡ index_on slots h root hi
    pub rises : index_on slots h root lo < index_on slots h root hi
    pub next : pairs_before slots ids (j + 1) ≡ pairs_before slots ids j + length (pairs_under slots hi.leaf)
    pub slot : hi.slot ≤ length (pairs_under slots hi.leaf)
    pub order : i ≤ j
    pub within : j + 1 ≤ length ids

  pub are_spots : {cmp : K → K → Ordering} (is_summary : A → List K → Type 0) → IsWellShaped cmp is_summary slots h root → ids ≡ leaves_at slots h root → IsIndexOn slots h root lo.leaf lo.slot → IsIndexOn slots h root hi.leaf hi.slot
      → index_on slots h root lo < index_on slots h root hi → i ≡ length (ahead lo.leaf.0 ids) → j ≡ length (ahead hi.leaf.0 ids) → AreSpots
  are_spots is_summary shape are on on' rises i_is j_is =
      let low = is_at is_summary slots h root shape ids are lo.leaf on.stored i i_is in
      let high = is_at is_summary slots h root shape ids are hi.leaf on'.stored j j_is in
      let within : hi.slot ≤ length (pairs_under slots hi.leaf) = on'.within in
      record {
        begin = ap (λ n. n + lo.slot) low.start_is;
        end = ap (λ n. n + hi.slot) high.start_is;
        rises = rises;
        next = high.next;
        slot = within;
        order = not_before slots ids i j lo.slot hi.slot (omega (arith, rises, low.start_is, high.start_is)) (omega (arith, high.next, within));
        within = high.within;
      }

-- A part of a tree's contents is between two positions in its leaves.
use Rattle.std.proofs.Common.{◌≡◌, ℕ, zero, suc, ◌+◌, ◌-◌, ◌<◌, ◌≤◌, inl, inr, List, [], ◌∷◌, ◌++◌, length, take, drop, refl, sym, ap, subst, ◌∙◌, arith, Option, Some, None, append_assoc, length-append, length-drop, take-append-drop}
use Rattle.std.proofs.lemmas.List.{drop-append-le, length-take-le, take_all}
use Rattle.std.specs.declared.cmp.Ordering.{Ordering}
use Rattle.std.specs.Cmp.{IsTotalOrder}
use Rattle.std.specs.List.{AllByRecursion}
use Rattle.bptree_nodes.specs.Inner.{Inner}
use Rattle.bptree_nodes.specs.Leaf.{Leaf}
use Rattle.bptree_nodes.specs.Slot.{Slot, Slots, Free, Held, Present, IsPresent}
use Rattle.bptree_keys.specs.declared.node_id.LeafNodeId.{LeafNodeId}
use Rattle.bptree_keys.specs.declared.node_id.Position.{Position}
use Rattle.bptree_keys.specs.declared.node_id.NodeId.{NodeId}
use Rattle.bptree_keys.specs.Contents.{IsAscending}
use Rattle.bptree_keys.specs.Ranges.{part}
use Rattle.bptree_keys.proofs.PieceLemmas.{AllByRecursion-right}
use Rattle.bptree_iter.specs.declared.part.Part.{Part}
use Rattle.bptree_iter.specs.declared.part.PartLen.TheVariants.{Exact}
use Rattle.bptree_invariant.specs.Leaves.{pairs_of, IsFirstLeaf, IsLastLeaf}
use Rattle.bptree_ranges.specs.Ranges.{ahead, index_on, start, IsPart}
use Rattle.bptree_invariant.specs.Shape.{leaf_pairs, leaf_prev, leaf_next, leaves_at, pairs_at, AreLinked, IsWellShaped}
use Rattle.bptree_search.proofs.Beside.{HasPair, others_have}
use Rattle.bptree_ranges.proofs.Ranged.{sides, start_is, ahead_of, reached, comes_before, take_of_take}
use Rattle.bptree_invariant.proofs.Ordered.{ascending_after}
use Rattle.bptree_invariant.proofs.Spot.{parts_of, ascending_before}
use Rattle.bptree_invariant.proofs.Walk.{flat-append}
use Rattle.bptree_iter.specs.Span.{IsSpan, AreApart, IsBetween, Reports, leaves_of, leaf_of, first_between}
use Rattle.bptree_iter.proofs.SpanLemmas.{first_of_span, take-part}
use Rattle.bptree_tree.proofs.Spans.{some_of, tree_span}
use Rattle.std.proofs.lemmas.Bool.Decides.{eqb_tells}

-- drops up to the seam of two lists and beyond, and takes over the seam
drop_past : {X : Type 0} (xs ys : List X) (n : ℕ) → drop (length xs + n) (xs ++ ys) ≡ drop n ys
drop_past [] ys n = let e : 0 + n ≡ n = omega arith in rw e refl
drop_past (x ∷ xs) ys n = let e : suc (length xs) + n ≡ suc (length xs + n) = omega arith in rw e (drop_past xs ys n)

take_past : {X : Type 0} (xs ys : List X) (n : ℕ) → take (length xs + n) (xs ++ ys) ≡ xs ++ take n ys
take_past [] ys n = let e : 0 + n ≡ n = omega arith in rw e refl
take_past (x ∷ xs) ys n = let e : suc (length xs) + n ≡ suc (length xs + n) = omega arith in rw e (ap (λ more. x ∷ more) (take_past xs ys n))

take_within : {X : Type 0} (xs ys : List X) (n : ℕ) → n ≤ length xs → take n (xs ++ ys) ≡ take n xs
take_within [] ys zero h = refl
take_within [] ys (suc n) h = absurd (omega arith)
take_within (x ∷ xs) ys zero h = refl
take_within (x ∷ xs) ys (suc n) h = ap (λ more. x ∷ more) (take_within xs ys n (omega arith))

-- a part within one piece
one_piece : {X : Type 0} (before here after : List X) (from to n : ℕ) → from ≤ to → to ≤ length here → from + n ≡ to → part (before ++ (here ++ after)) (length before + from) n ≡ drop from (take to here)
one_piece before here after from to n h g e =
    let within : from ≤ length here = omega arith in
    let long : length (drop from (take to here)) ≡ n = omega (arith, length-drop from (take to here), length-take-le to here g) in
    ap (take n) (drop_past before (here ++ after) from ∙ drop-append-le from here after within)
    ∙ (ap (λ m. take m (drop from here ++ after)) (sym long) ∙ take-part here after from to h g)

-- a part over a piece, some in the middle, and a last one
more_pieces : {X : Type 0} (before here mid last after : List X) (from to n : ℕ) → from ≤ length here → to ≤ length last → from + n ≡ length here + (length mid + to)
    → part (before ++ (here ++ (mid ++ (last ++ after)))) (length before + from) n ≡ drop from here ++ (mid ++ take to last)
more_pieces before here mid last after from to n h g e =
    let long : length (drop from here) ≡ length here - from = length-drop from here in
    let n_is : n ≡ length (drop from here) + (length mid + to) = omega (arith, long, e, h) in
    ap (take n) (drop_past before (here ++ (mid ++ (last ++ after))) from ∙ drop-append-le from here (mid ++ (last ++ after)) h)
    ∙ (ap (λ m. take m (drop from here ++ (mid ++ (last ++ after)))) n_is
    ∙ (take_past (drop from here) (mid ++ (last ++ after)) (length mid + to)
    ∙ ap (λ l. drop from here ++ l) (take_past mid (last ++ after) to ∙ ap (λ l. mid ++ l) (take_within last after to g))))

-- the leaves ahead of one are others
others_ahead : (leaf : LeafNodeId) (xs : List LeafNodeId) → AllByRecursion (λ (x : LeafNodeId). x ≡ leaf → ⊥) (ahead leaf.0 xs)
others_ahead leaf [] = tt
others_ahead leaf (x ∷ xs) =
    elim (eqb_tells x.0 leaf.0) [
      | inl same ↦ rw same.0 tt
      | inr other ↦ rw other.0 (λ e. other.1 (ap (λ (y : LeafNodeId). y.0) e), others_ahead leaf xs)
    ]

apart_over : (x : LeafNodeId) (mid : List LeafNodeId) (back : LeafNodeId) → AllByRecursion (λ (y : LeafNodeId). y ≡ back → ⊥) (x ∷ mid) → AreApart x (mid ++ back ∷ []) back
apart_over x [] back h = (h.0, tt)
apart_over x (y ∷ mid) back h = (h.0, apart_over y mid back h.1)

whole_apart : (first : LeafNodeId) (after before : List LeafNodeId) (last : LeafNodeId) → first ∷ after ≡ before ++ last ∷ [] → AllByRecursion (λ (y : LeafNodeId). y ≡ last → ⊥) before → AreApart first after last
whole_apart first after [] last e all = let none : after ≡ [] = cc in rw none tt
whole_apart first after (x ∷ before) last e all =
    let same : x ≡ first = cc in
    let rest : after ≡ before ++ last ∷ [] = cc in
    rw rest (subst (λ y. AreApart y (before ++ last ∷ []) last) same (apart_over x before last all))

module _ {K V A : Type 0} (slots : Slots (Inner K A) (Leaf K V)) where
  present_leaf : (s : Slot (Leaf K V)) → 0 < length (leaf_pairs s) → (leaf : Leaf K V) × (s ≡ Present leaf) × (0 < length leaf.pairs)
  present_leaf s h = some_of s h

  first_prev : (x y : LeafNodeId) (ys : List LeafNodeId) (q : Option LeafNodeId) → AreLinked slots (Some x) (y ∷ ys) q → leaf_prev (slots.leaf y.0) ≡ Some x
  first_prev x y [] q l = l.0
  first_prev x y (z ∷ zs) q l = l.0

  -- the last of some linked leaves are linked
  linked_tail : (p : Option LeafNodeId) (before rest : List LeafNodeId) (q : Option LeafNodeId) → AreLinked slots p (before ++ rest) q → (p' : Option LeafNodeId) × AreLinked slots p' rest q
  linked_tail p [] rest q h = (p, h)
  linked_tail p (x ∷ []) [] q h = (p, tt)
  linked_tail p (x ∷ []) (y ∷ ys) q h = (Some x, h.2)
  linked_tail p (x ∷ y ∷ before) rest q h = linked_tail (Some x) (y ∷ before) rest q h.2

  -- the span from a slot of a leaf, on to a span that begins in the next leaf
  span_ahead : (x y : LeafNodeId) (ids more : List LeafNodeId) (back : LeafNodeId) (from to : ℕ) (p q : Option LeafNodeId) (ys : List (K × V)) → AreLinked slots p (x ∷ y ∷ ids) q → AllByRecursion (HasPair slots) (x ∷ y ∷ ids) → from ≤ length (leaf_pairs (slots.leaf x.0)) → IsSpan (leaves_of slots) y 0 more back to ys
      → IsSpan (leaves_of slots) x from (y ∷ more) back to (drop from (leaf_pairs (slots.leaf x.0)) ++ ys)
  span_ahead x y ids more back from to p q ys linked all h rest =
      let at = present_leaf (slots.leaf x.0) all.0 in
      let after = present_leaf (slots.leaf y.0) all.1.0 in
      let prev = first_prev x y ids q linked.2 in
      let long : length (leaf_pairs (slots.leaf x.0)) ≡ length at.0.pairs = ap (λ s. length (leaf_pairs s)) at.1 in (
        at.0,
        after.0,
        ap leaf_of at.1,
        sym (ap leaf_next at.1) ∙ linked.1,
        ap leaf_of after.1,
        sym (ap leaf_prev after.1) ∙ prev,
        omega (arith, h, long),
        at.2,
        ys,
        ap (λ s. drop from (leaf_pairs s) ++ ys) at.1,
        rest,
      )

  -- the span from a slot of a leaf, over others, to a slot of the last
  span_over : (x : LeafNodeId) (mid : List LeafNodeId) (back : LeafNodeId) (rest : List LeafNodeId) (from to : ℕ) (p q : Option LeafNodeId) → AreLinked slots p (x ∷ (mid ++ back ∷ rest)) q
      → AllByRecursion (HasPair slots) (x ∷ (mid ++ back ∷ rest)) → from ≤ length (leaf_pairs (slots.leaf x.0)) → to ≤ length (leaf_pairs (slots.leaf back.0))
      → IsSpan (leaves_of slots) x from (mid ++ back ∷ []) back to (drop from (leaf_pairs (slots.leaf x.0)) ++ (pairs_of slots mid ++ take to (leaf_pairs (slots.leaf back.0))))
  span_over x [] back rest from to p q linked all h g =
      let after = present_leaf (slots.leaf back.0) all.1.0 in
      let long : length (leaf_pairs (slots.leaf back.0)) ≡ length after.0.pairs = ap (λ s. length (leaf_pairs s)) after.1 in
      span_ahead x back rest [] back from to p q (take to (leaf_pairs (slots.leaf back.0))) linked all h
      (after.0, ap leaf_of after.1, refl, omega arith, omega (arith, g, long), ap (λ s. take to (leaf_pairs s)) after.1)
  span_over x (y ∷ mid) back rest from to p q linked all h g =
      let more = span_over y mid back rest 0 to (Some x) q linked.2 all.1 (omega arith) g in
      span_ahead x y (mid ++ back ∷ rest) (mid ++ back ∷ []) back from to p q (pairs_of slots (y ∷ mid) ++ take to (leaf_pairs (slots.leaf back.0))) linked all h
      (subst (IsSpan (leaves_of slots) y 0 (mid ++ back ∷ []) back to) (sym (append_assoc (leaf_pairs (slots.leaf y.0)) (pairs_of slots mid) (take to (leaf_pairs (slots.leaf back.0))))) more)

module _ {K V A : Type 0} {cmp : K → K → Ordering} (is_summary : A → List K → Type 0) (slots : Slots (Inner K A) (Leaf K V)) (h : ℕ) (root : NodeId) (shape : IsWellShaped cmp is_summary slots h root) where
  abbrev size : LeafNodeId → ℕ
  size leaf = length (leaf_pairs (slots.leaf leaf.0))

  -- the number of pairs between the two positions of a part, and these pairs
  abbrev wide : Part → ℕ
  wide p = (start slots h root p.back.leaf + p.back.slot) - (start slots h root p.front.leaf + p.front.slot)

  abbrev within : Part → List (K × V)
  within p = part (pairs_at slots h root) (start slots h root p.front.leaf + p.front.slot) (wide p)

  up : (p : Part) (xs : List (K × V)) → IsPart slots h root p xs → start slots h root p.front.leaf + p.front.slot + wide p ≡ start slots h root p.back.leaf + p.back.slot
  up p xs is =
      elim is.rises [
        | inl behind ↦ omega (arith, behind)
        | inr same ↦ (let e = ap (index_on slots h root) same in omega (arith, e))
      ]

  -- a part that begins and ends in one leaf
  one_leaf : (p : Part) (xs : List (K × V)) (is : IsPart slots h root p xs) → p.front.leaf ≡ p.back.leaf → IsSpan (leaves_of slots) p.front.leaf p.front.slot [] p.back.leaf p.back.slot (within p)
  one_leaf p xs is same =
      let at = present_slot (slots.leaf p.front.leaf.0) is.front.stored.present in
      let e : start slots h root p.front.leaf ≡ start slots h root p.back.leaf = ap (start slots h root) same in
      let s : size p.back.leaf ≡ size p.front.leaf = ap size (sym same) in
      let long : size p.front.leaf ≡ length at.0.pairs = ap (λ s. length (leaf_pairs s)) at.1 in
      let in' = is.front.stored in
      let i : start slots h root p.front.leaf ≡ length (pairs_of slots in'.before) = start_is is_summary slots h root shape p.front.leaf in' in
      let xs_is : within p ≡ drop p.front.slot (take p.back.slot (leaf_pairs (slots.leaf p.front.leaf.0))) =
      (ap (λ l. part l (start slots h root p.front.leaf + p.front.slot) (wide p)) (parts_of slots h root p.front.leaf in')
      ∙ (ap (λ n. part (pairs_of slots in'.before ++ (leaf_pairs (slots.leaf p.front.leaf.0) ++ pairs_of slots in'.after)) (n + p.front.slot) (wide p)) i
      ∙ one_piece (pairs_of slots in'.before) (leaf_pairs (slots.leaf p.front.leaf.0)) (pairs_of slots in'.after) p.front.slot p.back.slot (wide p) (omega (arith, up p xs is, e)) (omega (arith, is.back.within, s)) (omega (arith, up p xs is, e)))) in
      (at.0, ap leaf_of at.1, sym same, omega (arith, up p xs is, e), omega (arith, is.back.within, s, long), xs_is ∙ ap (λ s. drop p.front.slot (take p.back.slot (leaf_pairs s))) at.1)
    where
      present_slot : (s : Slot (Leaf K V)) → IsPresent s → (leaf : Leaf K V) × (s ≡ Present leaf)
      present_slot Free h = absurd h
      present_slot Held h = absurd h
      present_slot (Present leaf) h = (leaf, refl)

  -- a part that spans several leaves
  more_leaves : (p : Part) (xs : List (K × V)) (is : IsPart slots h root p xs) (mid : List LeafNodeId) → is.front.stored.after ≡ mid ++ p.back.leaf ∷ is.back.stored.after → is.back.stored.before ≡ is.front.stored.before ++ p.front.leaf ∷ mid
      → IsSpan (leaves_of slots) p.front.leaf p.front.slot (mid ++ p.back.leaf ∷ []) p.back.leaf p.back.slot (within p)
  more_leaves p xs is mid e f =
      let in' = is.front.stored in
      let out = is.back.stored in
      let here = leaf_pairs (slots.leaf p.front.leaf.0) in
      let last = leaf_pairs (slots.leaf p.back.leaf.0) in
      let linked = linked_tail slots None in'.before (p.front.leaf ∷ in'.after) None (subst (λ ids. AreLinked slots None ids None) in'.leaves shape.linked) in
      let some = (others_have slots cmp h root p.front.leaf in' shape.tree).1 in
      let some' = AllByRecursion-right (HasPair slots) in'.before (p.front.leaf ∷ mid) (subst (AllByRecursion (HasPair slots)) f (others_have slots cmp h root p.back.leaf out shape.tree).0) in
      let ids = ap (λ l. p.front.leaf ∷ l) e in
      let span = span_over slots p.front.leaf mid p.back.leaf out.after p.front.slot p.back.slot linked.0 None (subst (λ l. AreLinked slots linked.0 l None) ids linked.1) (some'.0, subst (AllByRecursion (HasPair slots)) e some) is.front.within is.back.within in
      let i : start slots h root p.front.leaf ≡ length (pairs_of slots in'.before) = start_is is_summary slots h root shape p.front.leaf in' in
      let j : start slots h root p.back.leaf ≡ length (pairs_of slots in'.before) + (length here + length (pairs_of slots mid)) =
      start_is is_summary slots h root shape p.back.leaf out ∙ (ap (λ l. length (pairs_of slots l)) f ∙ (ap length (flat-append (λ (l : LeafNodeId). leaf_pairs (slots.leaf l.0)) in'.before (p.front.leaf ∷ mid))
      ∙ omega (arith, length-append (pairs_of slots in'.before) (pairs_of slots (p.front.leaf ∷ mid)), length-append here (pairs_of slots mid)))) in
      let all : pairs_at slots h root ≡ pairs_of slots in'.before ++ (here ++ (pairs_of slots mid ++ (last ++ pairs_of slots out.after))) =
      parts_of slots h root p.front.leaf in' ∙ ap (λ l. pairs_of slots in'.before ++ (here ++ l)) (ap (pairs_of slots) e ∙ flat-append (λ (l : LeafNodeId). leaf_pairs (slots.leaf l.0)) mid (p.back.leaf ∷ out.after)) in
      let xs_is : within p ≡ drop p.front.slot here ++ (pairs_of slots mid ++ take p.back.slot last) =
      (ap (λ l. part l (start slots h root p.front.leaf + p.front.slot) (wide p)) all
      ∙ (ap (λ n. part (pairs_of slots in'.before ++ (here ++ (pairs_of slots mid ++ (last ++ pairs_of slots out.after)))) (n + p.front.slot) (wide p)) i
      ∙ more_pieces (pairs_of slots in'.before) here (pairs_of slots mid) last (pairs_of slots out.after) p.front.slot p.back.slot (wide p) is.front.within is.back.within (omega (arith, up p xs is, i, j)))) in
      subst (IsSpan (leaves_of slots) p.front.leaf p.front.slot (mid ++ p.back.leaf ∷ []) p.back.leaf p.back.slot) (sym xs_is) span

  others_between : (p : Part) (xs : List (K × V)) (is : IsPart slots h root p xs) (mid : List LeafNodeId) → is.back.stored.before ≡ is.front.stored.before ++ p.front.leaf ∷ mid → AreApart p.front.leaf (mid ++ p.back.leaf ∷ []) p.back.leaf
  others_between p xs is mid f =
      let all = subst (AllByRecursion (λ (y : LeafNodeId). y ≡ p.back.leaf → ⊥)) (ahead_of is_summary slots h root shape p.back.leaf is.back.stored ∙ f) (others_ahead p.back.leaf (leaves_at slots h root)) in
      apart_over p.front.leaf mid p.back.leaf (AllByRecursion-right (λ (y : LeafNodeId). y ≡ p.back.leaf → ⊥) is.front.stored.before (p.front.leaf ∷ mid) all)

  long_within : (p : Part) (xs : List (K × V)) (is : IsPart slots h root p xs) → wide p ≡ length (within p)
  long_within p xs is =
      let all = reached is_summary slots h root shape p.back.leaf is.back.stored in
      let l = length-drop (start slots h root p.front.leaf + p.front.slot) (pairs_at slots h root) in
      sym (length-take-le (wide p) (drop (start slots h root p.front.leaf + p.front.slot) (pairs_at slots h root)) (omega (arith, l, all, up p xs is, is.back.within)))

  -- an iterator over the part has its precondition, and yields the part's pairs
  pub part_between_indexes : (p : Part) (xs : List (K × V)) → IsPart slots h root p xs → IsBetween (leaves_of slots) p.front.leaf p.front.slot p.back.leaf p.back.slot p.limit p.extent × (first_between (leaves_of slots) p.front.leaf p.front.slot p.back.leaf p.back.slot p.limit ≡ xs)
  part_between_indexes p xs is =
      let reports = subst (Reports p.extent p.limit) (long_within p xs is) is.reports in
      let cut : take p.limit (within p) ≡ xs = take_of_take p.limit (wide p) (drop (start slots h root p.front.leaf + p.front.slot) (pairs_at slots h root)) ∙ sym is.pairs in
      let so : (ids : List LeafNodeId) → IsSpan (leaves_of slots) p.front.leaf p.front.slot ids p.back.leaf p.back.slot (within p) → AreApart p.front.leaf ids p.back.leaf → IsBetween (leaves_of slots) p.front.leaf p.front.slot p.back.leaf p.back.slot p.limit p.extent × (first_between (leaves_of slots) p.front.leaf p.front.slot p.back.leaf p.back.slot p.limit ≡ xs) =
      (λ ids span apart. (record { ids = ids; pairs = within p; span = span; apart = apart; reports = reports }, first_of_span (leaves_of slots) p.front.leaf p.front.slot ids p.back.leaf p.back.slot (within p) p.limit span apart ∙ cut)) in
      elim (sides p.front.leaf p.back.leaf is.front.stored.before is.front.stored.after is.back.stored.before is.back.stored.after (sym is.front.stored.leaves ∙ is.back.stored.leaves)) [
        | inl same ↦ so [] (one_leaf p xs is same.1) tt
        | inr rest ↦ (elim rest [
          | inl first ↦ so (first.0 ++ p.back.leaf ∷ []) (more_leaves p xs is first.0 first.2 first.1) (others_between p xs is first.0 first.1)
          | inr last ↦
              (let before = comes_before is_summary slots h root shape p.back.leaf p.front.leaf is.back.stored is.front.stored last.0 last.1 last.2 in
              elim is.rises [
                | inl behind ↦ absurd (omega (arith, behind, before.from, is.back.within))
                | inr same ↦ so [] (one_leaf p xs is (sym (ap (λ (at : Position). at.leaf) same))) tt
              ])
        ])
      ]

  -- an iterator over the whole tree has its precondition, and yields all pairs
  pub whole_between : (first last : LeafNodeId) (node : Leaf K V) (n : ℕ) → (f : IsFirstLeaf slots h root first) → (l : IsLastLeaf slots h root last) → slots.leaf last.0 ≡ Present node → n ≡ length (pairs_at slots h root)
      → IsBetween (leaves_of slots) first 0 last (length node.pairs) n Exact × (first_between (leaves_of slots) first 0 last (length node.pairs) n ≡ pairs_at slots h root)
  whole_between first last node n f l here counted =
      let pairs = pairs_at slots h root in
      let span = tree_span cmp is_summary slots h root first last node shape f l here in
      let a : leaves_at slots h root ≡ first ∷ f.stored.after = f.stored.leaves ∙ ap (λ before. before ++ first ∷ f.stored.after) f.first in
      let b : leaves_at slots h root ≡ l.stored.before ++ last ∷ [] = l.stored.leaves ∙ ap (λ after. l.stored.before ++ last ∷ after) l.last in
      let all = subst (AllByRecursion (λ (y : LeafNodeId). y ≡ last → ⊥)) (ahead_of is_summary slots h root shape last l.stored) (others_ahead last (leaves_at slots h root)) in
      let apart = whole_apart first f.stored.after l.stored.before last (sym a ∙ b) all in
      let e = first_of_span (leaves_of slots) first 0 f.stored.after last (length node.pairs) pairs n span apart in
      (record { ids = f.stored.after; pairs = pairs; span = span; apart = apart; reports = sym counted }, e ∙ take_all n pairs (omega (arith, counted)))

-- a part of an ascending list ascends
pub part_ascends : {K V : Type 0} {cmp : K → K → Ordering} (total : IsTotalOrder cmp) (l : List (K × V)) (i n : ℕ) → IsAscending cmp l → IsAscending cmp (part l i n)
part_ascends {cmp = cmp} total l i n ascending =
    let rest = ascending_after total (take i l) (drop i l) (subst (IsAscending cmp) (sym (take-append-drop i l)) ascending) in
    ascending_before cmp (take n (drop i l)) (drop n (drop i l)) (subst (IsAscending cmp) (sym (take-append-drop n (drop i l))) rest)

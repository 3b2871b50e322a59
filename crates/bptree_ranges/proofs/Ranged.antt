-- Positions in the leaves of a tree: how many pairs are before them, and which leaf comes after
-- which.
use Rattle.std.proofs.Common.{◌≡◌, ℕ, zero, suc, ◌+◌, ◌-◌, ◌<◌, ◌≤◌, ◌⊎◌, inl, inr, Bool, true, false, cond, eqb, List, [], ◌∷◌, ◌++◌, length, refl, sym, ap, subst, ◌∙◌, arith, Option, Some, None, take, drop, filter, min, append_assoc, length-append, length-drop}
use Rattle.std.proofs.Common.{drop-drop}
use Rattle.std.proofs.Math.Nat.{eq-or-lt_of_le}
use Rattle.std.proofs.Math.Seq.{take-nil}
use Rattle.std.proofs.lemmas.List.{drop-take, drop_all, take_min}
use Rattle.std.specs.Cmp.{IsTotalOrder}
use mathlib.Core.Bool.{true≢false}
use Rattle.std.proofs.lemmas.Bool.Decides.{eqb_tells}
use Rattle.std.specs.declared.cmp.Ordering.{Ordering}
use Rattle.std.specs.List.{AllByRecursion}
use Rattle.std.specs.Map.{keys_of}
use Rattle.bptree_iter.specs.Span.{Reports}
use Rattle.bptree_iter.specs.declared.part.PartLen.{PartLen}
use Rattle.bptree_keys.specs.declared.node_id.LeafNodeId.{LeafNodeId}
use Rattle.bptree_keys.specs.declared.node_id.Position.{Position}
use Rattle.bptree_keys.specs.declared.node_id.NodeId.{NodeId}
use Rattle.bptree_nodes.specs.Inner.{Inner}
use Rattle.bptree_nodes.specs.Leaf.{Leaf}
use Rattle.bptree_nodes.specs.Slot.{Slot, Slots, Free, Held, Present, IsPresent}
use Rattle.bptree_keys.specs.Contents.{IsAscending}
use Rattle.bptree_keys.specs.Ranges.{part}
use Rattle.bptree_keys.proofs.PieceLemmas.{AllByRecursion-right}
use Rattle.bptree_search.specs.ByArgument.{IsSelectedAt}
use Rattle.bptree_invariant.specs.Leaves.{pairs_of, IsLeafOf, IsFirstLeaf, IsLastLeaf}
use Rattle.bptree_ranges.specs.Ranges.{ahead, start, index_on, empty_at, IsPart, IsIndexOn, IsSettled}
use Rattle.bptree_invariant.specs.Shape.{leaf_pairs, leaf_next, leaves_at, pairs_at, stored, AreLinked, IsWellShaped, root_least}
use Rattle.bptree_search.proofs.Beside.{HasPair, others_have}
use Rattle.bptree_invariant.proofs.Hinted.{count_of, count_leaves, first_or, linked_next, total-append}
use Rattle.bptree_invariant.proofs.Spot.{parts_of}
use Rattle.bptree_invariant.proofs.Walk.{flat-append, tree_ascends}

-- two members of a list, each with the members before and after it: they are one, or one comes
-- before the other
abbrev pub Sides : {X : Type 0} → X → X → List X → List X → List X → List X → Type 0
Sides {X} a b xs ys us vs = ((xs ≡ us) × (a ≡ b) × (ys ≡ vs)) ⊎ (((mid : List X) × (us ≡ xs ++ a ∷ mid) × (ys ≡ mid ++ b ∷ vs)) ⊎ ((mid : List X) × (xs ≡ us ++ b ∷ mid) × (vs ≡ mid ++ a ∷ ys)))

pub sides : {X : Type 0} (a b : X) (xs ys us vs : List X) → xs ++ a ∷ ys ≡ us ++ b ∷ vs → Sides a b xs ys us vs
sides a b [] ys [] vs e = inl (refl, cc, cc)
sides a b [] ys (u ∷ us) vs e = let h : u ≡ a = cc in inr (inl (us, ap (λ x. x ∷ us) h, cc))
sides a b (x ∷ xs) ys [] vs e = let h : x ≡ b = cc in inr (inr (xs, ap (λ y. y ∷ xs) h, cc))
sides a b (x ∷ xs) ys (u ∷ us) vs e =
    let h : x ≡ u = cc in
    let t : xs ++ a ∷ ys ≡ us ++ b ∷ vs = cc in
    elim (sides a b xs ys us vs t) [
      | inl same ↦ inl (rw (h, same.0) refl, same.1, same.2)
      | inr other ↦ (elim other [
        | inl first ↦ inr (inl (first.0, rw (h, first.1) refl, first.2))
        | inr last ↦ inr (inr (last.0, rw (h, last.1) refl, last.2))
      ])
    ]

-- if an id occurs at most once in a list, the leaves before it are those before its leaf
pub ahead_is : (before : List LeafNodeId) (leaf : LeafNodeId) (after : List LeafNodeId) → count_of (before ++ leaf ∷ after) leaf.0 ≤ 1 → ahead leaf.0 (before ++ leaf ∷ after) ≡ before
ahead_is [] leaf after once =
    elim (eqb_tells leaf.0 leaf.0) [
      | inl same ↦ rw same.0 refl
      | inr other ↦ absurd (other.1 refl)
    ]
ahead_is (x ∷ before) leaf after once =
    elim (eqb_tells x.0 leaf.0) [
      | inl same ↦ absurd (twice same.0)
      | inr other ↦ rw other.0 (ap (λ more. x ∷ more) (ahead_is before leaf after (let e = other.0 in let g = rw e at once in omega (arith, g))))
    ]
  where
    itself : count_of (leaf ∷ after) leaf.0 ≡ 1 + count_of after leaf.0
    itself =
        elim (eqb_tells leaf.0 leaf.0) [
          | inl same ↦ rw same.0 refl
          | inr other ↦ absurd (other.1 refl)
        ]

    twice : eqb x.0 leaf.0 ≡ true → ⊥
    twice e = omega (arith, rw e at once, itself, total-append (λ (l : LeafNodeId). cond (eqb l.0 leaf.0) 1 0) before (leaf ∷ after))

stored_le : {N : Type 0} (s : Slot N) → stored s ≤ 1
stored_le Free = omega arith
stored_le Held = omega arith
stored_le (Present node) = omega arith

present_of : {K V : Type 0} (s : Slot (Leaf K V)) → 0 < length (leaf_pairs s) → IsPresent s
present_of Free h = absurd (omega arith)
present_of Held h = absurd (omega arith)
present_of (Present leaf) h = tt

one_position : (a b : Position) → a.leaf ≡ b.leaf → a.slot ≡ b.slot → a ≡ b
one_position a b e f = λ i. record { leaf = e i; slot = f i }

module _ {K V A : Type 0} {cmp : K → K → Ordering} (is_summary : A → List K → Type 0) (slots : Slots (Inner K A) (Leaf K V)) (h : ℕ) (root : NodeId) (shape : IsWellShaped cmp is_summary slots h root) where
  abbrev pub size : LeafNodeId → ℕ
  size leaf = length (leaf_pairs (slots.leaf leaf.0))

  pub ahead_of : (leaf : LeafNodeId) (in' : IsLeafOf slots h root leaf) → ahead leaf.0 (leaves_at slots h root) ≡ in'.before
  ahead_of leaf in' =
      let once : count_of (leaves_at slots h root) leaf.0 ≤ 1 = omega (arith, count_leaves slots h root leaf.0, shape.leaves leaf.0, stored_le (slots.leaf leaf.0)) in
      rw in'.leaves (ahead_is in'.before leaf in'.after (rw in'.leaves at once))

  pub start_is : (leaf : LeafNodeId) (in' : IsLeafOf slots h root leaf) → start slots h root leaf ≡ length (pairs_of slots in'.before)
  start_is leaf in' = ap (λ ids. length (pairs_of slots ids)) (ahead_of leaf in')

  pub total_is : (leaf : LeafNodeId) (in' : IsLeafOf slots h root leaf) → length (pairs_at slots h root) ≡ start slots h root leaf + (size leaf + length (pairs_of slots in'.after))
  total_is leaf in' =
      let here = leaf_pairs (slots.leaf leaf.0) in
      let all = ap length (parts_of slots h root leaf in') in
      omega (arith, all, start_is leaf in', length-append (pairs_of slots in'.before) (here ++ pairs_of slots in'.after), length-append here (pairs_of slots in'.after))

  pub reached : (leaf : LeafNodeId) → IsLeafOf slots h root leaf → start slots h root leaf + size leaf ≤ length (pairs_at slots h root)
  reached leaf in' = omega (arith, total_is leaf in')

  -- a leaf that comes before another
  pub record ComesBefore (a b : LeafNodeId) : Type 0 where
    pub from : start slots h root a + size a ≤ start slots h root b
    pub first : 0 < size a
    pub last : 0 < size b

  pub comes_before : (a b : LeafNodeId) (one : IsLeafOf slots h root a) (other : IsLeafOf slots h root b) (mid : List LeafNodeId) → other.before ≡ one.before ++ a ∷ mid → one.after ≡ mid ++ b ∷ other.after → ComesBefore a b
  comes_before a b one other mid e f =
      let some = others_have slots cmp h root a one shape.tree in
      let some' = others_have slots cmp h root b other shape.tree in
      let l = subst (AllByRecursion (HasPair slots)) f some.1 in
      let l' = subst (AllByRecursion (HasPair slots)) e some'.0 in
      let at : length (pairs_of slots other.before) ≡ length (pairs_of slots one.before) + (size a + length (pairs_of slots mid)) =
      rw (e, flat-append (λ (l : LeafNodeId). leaf_pairs (slots.leaf l.0)) one.before (a ∷ mid)) (omega (arith, length-append (pairs_of slots one.before) (pairs_of slots (a ∷ mid)), length-append (leaf_pairs (slots.leaf a.0)) (pairs_of slots mid))) in
      record {
        from = omega (arith, start_is a one, start_is b other, at);
        first = (AllByRecursion-right (HasPair slots) one.before (a ∷ mid) l').0;
        last = (AllByRecursion-right (HasPair slots) mid (b ∷ other.after) l).0;
      }

  -- two leaves of a tree are one, or one comes before the other
  pub order : (a b : LeafNodeId) → IsLeafOf slots h root a → IsLeafOf slots h root b → (a ≡ b) ⊎ (ComesBefore a b ⊎ ComesBefore b a)
  order a b one other =
      elim (sides a b one.before one.after other.before other.after (sym one.leaves ∙ other.leaves)) [
        | inl same ↦ inl same.1
        | inr rest ↦ (elim rest [
          | inl first ↦ inr (inl (comes_before a b one other first.0 first.1 first.2))
          | inr last ↦ inr (inr (comes_before b a other one last.0 last.1 last.2))
        ])
      ]

  -- the leaf that a link names is the next one of the tree
  pub record NextLeaf (leaf next : LeafNodeId) : Type 0 where
    pub stands' : IsLeafOf slots h root next
    pub from : start slots h root next ≡ start slots h root leaf + size leaf
    pub later : length (ahead next.0 (leaves_at slots h root)) ≡ length (ahead leaf.0 (leaves_at slots h root)) + 1
    pub more : length (ahead next.0 (leaves_at slots h root)) < length (leaves_at slots h root)
    pub some : 0 < size leaf
    pub full : 0 < size next

  links : (leaf : LeafNodeId) (in' : IsLeafOf slots h root leaf) → AreLinked slots None (in'.before ++ leaf ∷ in'.after) None
  links leaf in' = subst (λ ids. AreLinked slots None ids None) in'.leaves shape.linked

  next_is : (leaf : LeafNodeId) (in' : IsLeafOf slots h root leaf) → leaf_next (slots.leaf leaf.0) ≡ first_or None in'.after
  next_is leaf in' = linked_next slots None in'.before leaf in'.after None (links leaf in')

  next_by : (leaf next : LeafNodeId) (in' : IsLeafOf slots h root leaf) (after : List LeafNodeId) → in'.after ≡ after → first_or None after ≡ Some next → NextLeaf leaf next
  next_by leaf next in' [] e f = cc
  next_by leaf next in' (y ∷ ys) e f =
      let same : y ≡ next = cc in
      let some = subst (AllByRecursion (HasPair slots)) e (others_have slots cmp h root leaf in' shape.tree).1 in
      let in2 : IsLeafOf slots h root next = record {
        before = in'.before ++ leaf ∷ [];
        after = ys;
        leaves = in'.leaves ∙ (rw (e, same) refl ∙ sym (append_assoc in'.before (leaf ∷ []) (next ∷ ys)));
        present = rw (← same) (present_of (slots.leaf y.0) some.0);
      } in
      let before = comes_before leaf next in' in2 [] refl (e ∙ ap (λ (x : LeafNodeId). x ∷ ys) same) in
      let at : length (pairs_of slots (in'.before ++ leaf ∷ [])) ≡ length (pairs_of slots in'.before) + size leaf =
      rw (flat-append (λ (l : LeafNodeId). leaf_pairs (slots.leaf l.0)) in'.before (leaf ∷ [])) (omega (arith, length-append (pairs_of slots in'.before) (pairs_of slots (leaf ∷ [])), length-append (leaf_pairs (slots.leaf leaf.0)) [])) in
      record {
        stands' = in2;
        from = omega (arith, start_is leaf in', start_is next in2, at);
        later = omega (arith, ap length (ahead_of leaf in'), ap length (ahead_of next in2), length-append in'.before (leaf ∷ []));
        more = omega (arith, ap length in2.leaves, ap length (ahead_of next in2), length-append in2.before (next ∷ ys));
        some = before.first;
        full = before.last;
      }

  pub next_of : (leaf next : LeafNodeId) (node : Leaf K V) → IsLeafOf slots h root leaf → slots.leaf leaf.0 ≡ Present node → node.next ≡ Some next → NextLeaf leaf next
  next_of leaf next node in' here e = next_by leaf next in' in'.after refl (sym (next_is leaf in') ∙ (ap leaf_next here ∙ e))

  nothing_after : (after : List LeafNodeId) → first_or None after ≡ None → after ≡ []
  nothing_after [] e = refl
  nothing_after (y ∷ ys) e = cc

  -- no pair comes after a leaf whose link is `None`
  pub last_of : (leaf : LeafNodeId) (node : Leaf K V) → IsLeafOf slots h root leaf → slots.leaf leaf.0 ≡ Present node → node.next ≡ None → length (pairs_at slots h root) ≡ start slots h root leaf + size leaf
  last_of leaf node in' here e =
      let none : in'.after ≡ [] = nothing_after in'.after (sym (next_is leaf in') ∙ (ap leaf_next here ∙ e)) in
      let zero' : length (pairs_of slots in'.after) ≡ 0 = rw none refl in
      omega (arith, total_is leaf in', zero')

  pub size_of : (leaf : LeafNodeId) (node : Leaf K V) → slots.leaf leaf.0 ≡ Present node → size leaf ≡ length node.pairs
  size_of leaf node here = ap (λ s. length (leaf_pairs s)) here

  -- of two positions at pairs, or at the end of all, one is after the other, or they are one
  pub rises_between : (one other : Position) (i j : ℕ) → IsSettled slots h root i one → IsSettled slots h root j other → i ≤ j → (index_on slots h root one < index_on slots h root other) ⊎ (other ≡ one)
  rises_between one other i j a b le =
      elim (eq-or-lt_of_le le) as (λ _. (index_on slots h root one < index_on slots h root other) ⊎ (other ≡ one)) [
        | inr lt ↦ (let lt' : i < j = lt in inl (omega (arith, lt', a.same, b.same)))
        | inl eq ↦
            (elim (order one.leaf other.leaf a.on.stored b.on.stored) as (λ _. (index_on slots h root one < index_on slots h root other) ⊎ (other ≡ one)) [
              | inl same ↦ (let at = ap (start slots h root) same in inr (one_position other one (sym same) (omega (arith, eq, a.same, b.same, at))))
              | inr rest ↦
                  (elim rest as (λ _. (index_on slots h root one < index_on slots h root other) ⊎ (other ≡ one)) [
                    | inl first ↦ (let here = a.pair (omega (arith, first.from, first.last, reached other.leaf b.on.stored, a.same, a.on.within)) in absurd (omega (arith, here, first.from, eq, a.same, b.same)))
                    | inr last ↦ (let there = b.pair (omega (arith, last.from, last.last, reached one.leaf a.on.stored, b.same, b.on.within)) in absurd (omega (arith, there, last.from, eq, a.same, b.same)))
                  ])
            ])
      ]

  -- the part between two settled positions has the pairs between the given positions
  pub part_between_settled : (front back one other : Position) (limit' : ℕ) (extent' : PartLen) → IsSettled slots h root (index_on slots h root front) one → IsSettled slots h root (index_on slots h root back) other → index_on slots h root front ≤ index_on slots h root back
      → Reports extent' limit' (index_on slots h root back - index_on slots h root front)
      → IsPart slots h root (record { front = one; back = other; limit = limit'; extent = extent' }) (part (pairs_at slots h root) (index_on slots h root front) (min limit' (index_on slots h root back - index_on slots h root front)))
  part_between_settled front back one other limit' extent' a b le reported =
      let i = index_on slots h root front in
      let j = index_on slots h root back in
      let i' = index_on slots h root one in
      let j' = index_on slots h root other in
      let from : i ≡ i' = sym a.same in
      let apart : j - i ≡ j' - i' = omega (arith, a.same, b.same) in
      record {
        front = a.on;
        back = b.on;
        rises = rises_between one other i j a b le;
        reports = subst (Reports extent' limit') apart reported;
        pairs = ap (λ k. part (pairs_at slots h root) k (min limit' (j - i))) from ∙ ap (λ n. part (pairs_at slots h root) i' (min limit' n)) apart;
      }

  -- a settled position is the settled form of itself
  pub settled_itself : (i : ℕ) (at : Position) → IsSettled slots h root i at → IsSettled slots h root (index_on slots h root at) at
  settled_itself i at settled = subst (λ n. IsSettled slots h root n at) (sym settled.same) settled

  -- the position of the first pair of all, and the one after the last pair
  pub first_index : (leaf : LeafNodeId) → IsFirstLeaf slots h root leaf → IsIndexOn slots h root leaf 0 × (start slots h root leaf + 0 ≡ 0)
  first_index leaf first =
      let none : length (pairs_of slots first.stored.before) ≡ 0 = rw first.first refl in
      (record { stored = first.stored; within = omega arith }, omega (arith, start_is leaf first.stored, none))

  pub last_index : (leaf : LeafNodeId) (node : Leaf K V) → IsLastLeaf slots h root leaf → slots.leaf leaf.0 ≡ Present node → IsIndexOn slots h root leaf (length node.pairs) × (start slots h root leaf + length node.pairs ≡ length (pairs_at slots h root))
  last_index leaf node last here =
      let none : length (pairs_of slots last.stored.after) ≡ 0 = rw last.last refl in
      (record { stored = last.stored; within = omega (arith, size_of leaf node here) }, omega (arith, total_is leaf last.stored, none, size_of leaf node here))

  pub contents_ascend : IsTotalOrder cmp → IsAscending cmp (pairs_at slots h root)
  contents_ascend total = tree_ascends total slots (root_least h) h root None None shape.tree

  -- the position that a query selects is one of the tree, and the query selects its index
  pub selected_index : {Q : Type 0} (selects : Q → List K → Option ℕ → Type 0) (query : Q) (leaf : LeafNodeId) (slot : ℕ) → IsSelectedAt selects query slots h root (Some (record { leaf = leaf; slot = slot }))
      → IsIndexOn slots h root leaf slot × selects query (keys_of (pairs_at slots h root)) (Some (start slots h root leaf + slot))
  selected_index selects query leaf slot (in', short, selected) = (
    record { stored = in'; within = omega (arith, short) },
    subst (λ (n : ℕ). selects query (keys_of (pairs_at slots h root)) (Some (n + slot))) (sym (start_is leaf in')) selected,
  )

  pub selected_within : {Q : Type 0} (selects : Q → List K → Option ℕ → Type 0) (query : Q) (leaf : LeafNodeId) (slot : ℕ) → IsSelectedAt selects query slots h root (Some (record { leaf = leaf; slot = slot })) → start slots h root leaf + slot < length (pairs_at slots h root)
  selected_within selects query leaf slot (in', short, selected) = omega (arith, short, start_is leaf in', total_is leaf in')

-- a part of more members than there are is the part of all there are
part_cut : {X : Type 0} (l : List X) (i n m : ℕ) → m ≡ min n (length l - i) → part l i n ≡ part l i m
part_cut l i n m e = sym (take_min n (drop i l)) ∙ ap (λ k. take k (drop i l)) (ap (min n) (length-drop i l) ∙ sym e)

-- a limit that reaches to the end of the list does not shorten a part
pub part_upto_end : {X : Type 0} (l : List X) (i n m : ℕ) → m ≡ length l → part l i (min n (m - i)) ≡ part l i n
part_upto_end l i n m e = ap (λ k. part l i (min n (k - i))) e ∙ sym (part_cut l i n (min n (length l - i)) refl)

-- the first n of the first k members are the first `min n k` members
pub take_of_take : {X : Type 0} (n k : ℕ) (l : List X) → take n (take k l) ≡ take (min n k) l
take_of_take zero k l = let on : min zero k ≡ zero = omega arith in sym (ap (λ j. take j l) on)
take_of_take (suc n) zero l = let on : min (suc n) zero ≡ zero = omega arith in sym (ap (λ j. take j l) on)
take_of_take (suc n) (suc k) [] = sym (take-nil (min (suc n) (suc k)))
take_of_take (suc n) (suc k) (x ∷ xs) =
    let on : min (suc n) (suc k) ≡ suc (min n k) = omega arith in
    ap (λ ys. x ∷ ys) (take_of_take n k xs) ∙ sym (ap (λ j. take j (x ∷ xs)) on)

-- a part of a part is a part of the list
pub part_of_part : {X : Type 0} (l : List X) (s m i n : ℕ) → i < m → part (part l s m) i n ≡ part l (s + i) (min n (m - i))
part_of_part l s m i n more =
    let on : m ≡ i + (m - i) = omega (arith, more) in
    ap (λ k. take n (drop i (take k (drop s l)))) on ∙ ap (take n) (drop-take i (m - i) (drop s l)) ∙ take_of_take n (m - i) (drop i (drop s l)) ∙ ap (take (min n (m - i))) (drop-drop i s l)

-- a part from the end on is empty
pub part_past : {X : Type 0} (l : List X) (i n : ℕ) → length l ≤ i → part l i n ≡ []
part_past l i n less = ap (take n) (drop_all i l less) ∙ take-nil n

-- the empty part at a position of the tree is a part without pairs
pub empty_part : {K V A : Type 0} (slots : Slots (Inner K A) (Leaf K V)) (h : ℕ) (root : NodeId) (at : Position) → IsIndexOn slots h root at.leaf at.slot → IsPart slots h root (empty_at at) []
empty_part slots h root at on =
    let none : min 0 ((start slots h root at.leaf + at.slot) - (start slots h root at.leaf + at.slot)) ≡ 0 = omega arith in
    record { front = on; back = on; rises = inr refl; reports = omega arith; pairs = sym (ap (part (pairs_at slots h root) (start slots h root at.leaf + at.slot)) none) }

-- fewer members pass a narrower test
pub filter_fewer : {X : Type 0} (p q : X → Bool) (xs : List X) → ((x : X) → p x ≡ true → q x ≡ true) → length (filter p xs) ≤ length (filter q xs)
filter_fewer p q [] h = omega arith
filter_fewer p q (x ∷ xs) h = by_tests (filter_fewer p q xs h) (p x) (q x) refl refl
  where
    by_tests : length (filter p xs) ≤ length (filter q xs) → (a b : Bool) → p x ≡ a → q x ≡ b → length (filter p (x ∷ xs)) ≤ length (filter q (x ∷ xs))
    by_tests more true true e f = rw (e, f) (omega (arith, more))
    by_tests more true false e f = absurd (true≢false (sym (h x e) ∙ f))
    by_tests more false true e f = rw (e, f) (omega (arith, more))
    by_tests more false false e f = rw (e, f) more

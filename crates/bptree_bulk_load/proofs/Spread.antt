-- A new leaf after others: all nodes that were present stay, with the links between them.
use Rattle.std.proofs.Common.{◌≡◌, ℕ, ◌+◌, ◌<◌, ◌≤◌, inl, inr, cond, List, [], ◌∷◌, ◌++◌, length, refl, sym, ap, subst, ◌∙◌, arith, Option, Some, None, eqb, append-nil, append_assoc, length-append}
use Rattle.std.specs.declared.cmp.Ordering.{Ordering}
use Rattle.std.specs.Cmp.{IsTotalOrder}
use Rattle.std.specs.List.{AllByRecursion}
use Rattle.std.proofs.lemmas.Bool.Decides.{eqb_tells}
use Rattle.bptree_keys.specs.Contents.{IsAscending}
use Rattle.bptree_keys.specs.declared.node_id.LeafNodeId.{LeafNodeId}
use Rattle.bptree_keys.specs.declared.node_id.NodeId.{NodeId}
use Rattle.bptree_keys.specs.declared.node_id.NodeId.TheVariants as kind
use Rattle.bptree_keys.proofs.PieceLemmas.{AllByRecursion-append}
use Rattle.bptree_nodes.specs.Inner.{Inner}
use Rattle.bptree_nodes.specs.Leaf.{Leaf}
use Rattle.bptree_nodes.specs.Slot.{Slot, Slots, Free, Held, Present, IsPresent, IsEmpty, UpdatesLeaf}
use Rattle.bptree_invariant.specs.Edit.{SameLinks}
use Rattle.bptree_invariant.specs.Order.{flat, total}
use Rattle.bptree_invariant.specs.Shape.{leaf_prev, leaf_next, pairs_at, leaves_at, leaf_count, inner_count, stored, AreLinked}
use Rattle.bptree_invariant.proofs.Agreeing.{present_if_stored, stored_if_absent}
use Rattle.bptree_invariant.proofs.Frame.{Same, all_same}
use Rattle.bptree_invariant.proofs.Hinted.{count_of, count_leaves, total-append}
use Rattle.bptree_invariant.proofs.Ordered.{ascending_after}
use Rattle.bptree_invariant.proofs.Spot.{ascending_before}
use Rattle.bptree_propagation.proofs.Relinked.{each_counted, linked_same}
use Rattle.bptree_bulk_load.specs.Layer.{roots, last_of, IsSeated, IsLayer, IsSpreading}
use Rattle.bptree_bulk_load.specs.Steps.{IsFilled}
use Rattle.bptree_bulk_load.specs.declared.subtree.Subtree.{Subtree}
use Rattle.bptree_bulk_load.proofs.Lists.{nothing, flat_end, total_end}
use Rattle.bptree_bulk_load.proofs.Raised.{pairs_same, order_same, leaves_same}
use Rattle.bptree_bulk_load.proofs.Seated.{seated_same}

pub last_end : (p : Option LeafNodeId) (ids : List LeafNodeId) (id : LeafNodeId) → last_of p (ids ++ id ∷ []) ≡ Some id
last_end p [] id = refl
last_end p (x ∷ ids) id = last_end (Some x) ids id

-- a leaf is linked after others
pub linked_end : {K V A : Type 0} (slots : Slots (Inner K A) (Leaf K V)) (p : Option LeafNodeId) (ids : List LeafNodeId) (id : LeafNodeId) (q : Option LeafNodeId) → AreLinked slots p ids (Some id)
    → leaf_prev (slots.leaf id.0) ≡ last_of p ids → leaf_next (slots.leaf id.0) ≡ q → AreLinked slots p (ids ++ id ∷ []) q
linked_end slots p [] id q linked prev next = (prev, next)
linked_end slots p (x ∷ []) id q linked prev next = (linked.0, linked.1, (prev, next))
linked_end slots p (x ∷ y ∷ ids) id q linked prev next = (linked.0, linked.1, linked_end slots (Some x) (y ∷ ids) id q linked.2 prev next)

-- a new leaf is present at the id that was reserved for it, and what was present stays
record IsPlaced {K V A : Type 0} (old new : Slots (Inner K A) (Leaf K V)) (id : LeafNodeId) (leaf : Leaf K V) : Type 0 where
  here : new.leaf id.0 ≡ Present leaf
  held : old.leaf id.0 ≡ Held
  others : (n : ℕ) → (n ≡ id.0 → ⊥) → stored (new.leaf n) ≡ stored (old.leaf n)
  stay : (n : ℕ) → IsPresent (old.leaf n) → new.leaf n ≡ old.leaf n
  inner : new.inner ≡ old.inner

module _ {K V A : Type 0} {cmp : K → K → Ordering} (total' : IsTotalOrder cmp) (is_summary : A → List K → Type 0) (old new : Slots (Inner K A) (Leaf K V)) (count : ℕ) (done : List (Subtree K A)) (id : LeafNodeId) (prev : Option LeafNodeId) (all rest pairs : List (K × V)) (first : K) (summary : A) (filled leaf : Leaf K V)
    (spreading : IsSpreading cmp is_summary old 16 done id prev all pairs) (ascending : IsAscending cmp pairs) (fill : IsFilled cmp is_summary all count prev filled first summary rest)
    (same_pairs : leaf.pairs ≡ filled.pairs) (same_prev : leaf.prev ≡ filled.prev) (placed : IsPlaced old new id leaf) where
  abbrev tree : Subtree K A
  tree = record { root = kind.Leaf id; first = first; summary = summary }

  same_leaf : (n : ℕ) → 1 ≤ total (λ c. leaf_count old 0 c n) (roots done) → new.leaf n ≡ old.leaf n
  same_leaf n some = placed.stay n (present_if_stored (old.leaf n) (omega (arith, some, spreading.leaves n)))

  same_done : AllByRecursion (Same cmp is_summary old new 0) (roots done)
  same_done = all_same cmp is_summary old new 0 (roots done) (same_leaf, (λ n some. ap (λ (f : ℕ → Slot (Inner K A)). f n) placed.inner))

  parts : pairs ≡ flat (pairs_at old 0) (roots done) ++ (leaf.pairs ++ rest)
  parts = sym spreading.pairs_are ∙ ap (λ l. flat (pairs_at old 0) (roots done) ++ l) (fill.taken ∙ ap (λ l. l ++ rest) (sym same_pairs))

  leaf_ascending : IsAscending cmp leaf.pairs
  leaf_ascending = ascending_before cmp leaf.pairs rest (ascending_after total' (flat (pairs_at old 0) (roots done)) (leaf.pairs ++ rest) (subst (IsAscending cmp) parts ascending))

  at_pairs : pairs_at new 0 (kind.Leaf id) ≡ leaf.pairs
  at_pairs = rw placed.here refl

  seated_new : (least : ℕ) → least ≤ count → count ≤ 64 → AllByRecursion (IsSeated cmp is_summary old least 0) done → AllByRecursion (IsSeated cmp is_summary new least 0) (done ++ tree ∷ [])
  seated_new least enough room seated =
      AllByRecursion-append (IsSeated cmp is_summary new least 0) done (tree ∷ []) (seated_same cmp is_summary old new least 0 done same_done seated) (
        record {
          lies_between = λ lo hi inside. rw placed.here (tt, rw placed.here at inside, leaf_ascending, omega (arith, enough, fill.len, ap length same_pairs), omega (arith, room, fill.len, ap length same_pairs));
          first = rw (placed.here, same_pairs) fill.starts;
          reported = rw (placed.here, same_pairs) (fill.reported (rw (← same_pairs) leaf_ascending));
          summed = tt;
        },
        tt,
      )

  new_pairs : flat (pairs_at new 0) (roots (done ++ tree ∷ [])) ++ rest ≡ pairs
  new_pairs =
      rw (flat_end (pairs_at new 0) done tree, pairs_same cmp is_summary old new 0 (roots done) same_done, at_pairs)
      (append_assoc (flat (pairs_at old 0) (roots done)) leaf.pairs rest ∙ sym parts)

  new_leaves : (n : ℕ) → total (λ c. leaf_count new 0 c n) (roots (done ++ tree ∷ [])) ≡ stored (new.leaf n)
  new_leaves n =
      let more = total_end (λ c. leaf_count new 0 c n) done tree in
      let before = leaves_same cmp is_summary old new 0 (roots done) same_done n in
      elim (eqb_tells id.0 n) [
        | inl same ↦
            (let none : stored (old.leaf n) ≡ 0 = ap (λ m. stored (old.leaf m)) (sym same.1) ∙ ap stored placed.held in
            let one : stored (new.leaf n) ≡ 1 = ap (λ m. stored (new.leaf m)) (sym same.1) ∙ ap stored placed.here in
            omega (arith, rw same.0 at more, before, none, one, spreading.leaves n))
        | inr other ↦ omega (arith, rw other.0 at more, before, spreading.leaves n, placed.others n (λ q. other.1 (sym q)))
      ]

  new_order : flat (leaves_at new 0) (roots (done ++ tree ∷ [])) ≡ flat (leaves_at old 0) (roots done) ++ id ∷ []
  new_order = flat_end (leaves_at new 0) done tree ∙ ap (λ l. l ++ id ∷ []) (order_same cmp is_summary old new 0 (roots done) same_done)

  same_links : (l : LeafNodeId) → 1 ≤ count_of (flat (leaves_at old 0) (roots done)) l.0 → SameLinks old new l
  same_links l some =
      let e = same_leaf l.0 (omega (arith, some, counted (roots done) l.0)) in
      (ap leaf_prev e, ap leaf_next e)
    where
      counted : (cs : List NodeId) (n : ℕ) → total (λ c. leaf_count old 0 c n) cs ≡ count_of (flat (leaves_at old 0) cs) n
      counted [] n = refl
      counted (c ∷ cs) n = omega (arith, count_leaves old 0 c n, counted cs n, total-append (λ (l : LeafNodeId). cond (eqb l.0 n) 1 0) (leaves_at old 0 c) (flat (leaves_at old 0) cs))

  new_linked : (q : Option LeafNodeId) → leaf.next ≡ q → AreLinked new None (flat (leaves_at new 0) (roots (done ++ tree ∷ []))) q
  new_linked q next =
      rw new_order
      (linked_end new None (flat (leaves_at old 0) (roots done)) id q
      (linked_same old new None (flat (leaves_at old 0) (roots done)) (Some id) (each_counted (SameLinks old new) (flat (leaves_at old 0) (roots done)) same_links) spreading.linked)
      (ap leaf_prev placed.here ∙ (same_prev ∙ (ap (λ (l : Leaf K V). l.prev) fill.is ∙ spreading.prev_is)))
      (ap leaf_next placed.here ∙ next))

  -- a leaf is added that another one will follow
  spreads : 16 ≤ count → count ≤ 64 → (next : LeafNodeId) → leaf.next ≡ Some next → new.leaf next.0 ≡ Held → ((n : ℕ) → new.leaf n ≡ Held → n ≡ next.0) → IsSpreading cmp is_summary new 16 (done ++ tree ∷ []) next (Some id) rest pairs
  spreads enough room next named held only = record {
    seated = seated_new 16 enough room spreading.seated;
    pairs_are = new_pairs;
    leaves = new_leaves;
    no_inner = λ n there. spreading.no_inner n (subst IsPresent (ap (λ (f : ℕ → Slot (Inner K A)). f n) placed.inner) there);
    held = held;
    no_other_held = only;
    no_inner_held = λ n is. spreading.no_inner_held n (sym (ap (λ (f : ℕ → Slot (Inner K A)). f n) placed.inner) ∙ is);
    linked = new_linked (Some next) named;
    prev_is = sym (rw new_order (last_end None (flat (leaves_at old 0) (roots done)) id));
  }

  -- the last leaf is added
  spreads_last : ((n : ℕ) → (n ≡ id.0 → ⊥) → new.leaf n ≡ old.leaf n) → (least : ℕ) → least ≤ count → count ≤ 64 → leaf.next ≡ None → rest ≡ [] → (1 < length (done ++ tree ∷ []) → 16 ≤ least) → AllByRecursion (IsSeated cmp is_summary old least 0) done → IsLayer cmp is_summary new 0 (done ++ tree ∷ []) pairs
  spreads_last stays least enough room last none many seated = record {
    least = least;
    enough = omega arith;
    many = many;
    seated = seated_new least enough room seated;
    pairs_are = sym (append-nil _) ∙ (ap (λ l. flat (pairs_at new 0) (roots (done ++ tree ∷ [])) ++ l) (sym none) ∙ new_pairs);
    leaves = new_leaves;
    inners = λ n. none_inner (roots (done ++ tree ∷ [])) n ∙ sym (stored_if_absent (new.inner n) (λ there. spreading.no_inner n (subst IsPresent (ap (λ (f : ℕ → Slot (Inner K A)). f n) placed.inner) there)));
    no_leaf_held = λ n held.
        elim (eqb_tells n id.0) [
          | inl same ↦ (let e = sym placed.here ∙ (ap new.leaf (sym same.1) ∙ held) in cc)
          | inr other ↦ other.1 (spreading.no_other_held n (sym (stays n other.1) ∙ held))
        ];
    no_inner_held = λ n is. spreading.no_inner_held n (sym (ap (λ (f : ℕ → Slot (Inner K A)). f n) placed.inner) ∙ is);
    linked = new_linked None last;
  }
    where
      none_inner : (cs : List NodeId) (n : ℕ) → total (λ c. inner_count new 0 c n) cs ≡ 0
      none_inner [] n = refl
      none_inner (c ∷ cs) n = omega (arith, none_inner cs n)

  ends_leaves : ((n : ℕ) → (n ≡ id.0 → ⊥) → new.leaf n ≡ old.leaf n) → (trees : List (Subtree K A)) → done ≡ trees → count ≤ 64 → leaf.next ≡ None → rest ≡ [] → (0 < length trees → 16 ≤ count) → IsLayer cmp is_summary new 0 (done ++ tree ∷ []) pairs
  ends_leaves stays [] is room last none enough = spreads_last stays 0 (omega arith) room last none (λ many. absurd (omega (arith, many, ap length is, length-append done (tree ∷ [])))) (rw is tt)
  ends_leaves stays (t ∷ ts) is room last none enough = spreads_last stays 16 (enough (omega arith)) room last none (λ many. omega arith) spreading.seated

-- a leaf is stored after the id of the next leaf is reserved
placed_between : {K V A : Type 0} (old mid new : Slots (Inner K A) (Leaf K V)) (id next : LeafNodeId) (leaf : Leaf K V) → old.leaf id.0 ≡ Held → old.leaf next.0 ≡ Free → UpdatesLeaf old mid next.0 Held → UpdatesLeaf mid new id.0 (Present leaf) → IsPlaced old new id leaf
placed_between old mid new id next leaf held free reserved assigned = record {
  here = assigned.leaf.changed;
  held = held;
  others = λ n other.
      ap stored (assigned.leaf.others n other)
      ∙ elim (eqb_tells n next.0) [
        | inl same ↦ (ap stored (ap mid.leaf same.1 ∙ reserved.leaf.changed) ∙ ap stored (sym (ap old.leaf same.1 ∙ free)))
        | inr new_one ↦ ap stored (reserved.leaf.others n new_one.1)
      ];
  stay = λ n there.
      assigned.leaf.others n (λ q. subst IsPresent (ap old.leaf q ∙ held) there)
      ∙ reserved.leaf.others n (λ q. subst IsPresent (ap old.leaf q ∙ free) there);
  inner = assigned.inner ∙ reserved.inner;
}

placed_last : {K V A : Type 0} (old new : Slots (Inner K A) (Leaf K V)) (id : LeafNodeId) (leaf : Leaf K V) → old.leaf id.0 ≡ Held → UpdatesLeaf old new id.0 (Present leaf) → IsPlaced old new id leaf
placed_last old new id leaf held assigned = record {
  here = assigned.leaf.changed;
  held = held;
  others = λ n other. ap stored (assigned.leaf.others n other);
  stay = λ n there. assigned.leaf.others n (λ q. subst IsPresent (ap old.leaf q ∙ held) there);
  inner = assigned.inner;
}

-- the id of the next leaf is then the only one that is reserved
held_between : {K V A : Type 0} (old mid new : Slots (Inner K A) (Leaf K V)) (id next : LeafNodeId) (leaf : Leaf K V) → ((n : ℕ) → old.leaf n ≡ Held → n ≡ id.0) → UpdatesLeaf old mid next.0 Held → UpdatesLeaf mid new id.0 (Present leaf) → (n : ℕ) → new.leaf n ≡ Held → n ≡ next.0
held_between old mid new id next leaf only reserved assigned n held =
    elim (eqb_tells n next.0) [
      | inl same ↦ same.1
      | inr other ↦ (elim (eqb_tells n id.0) [
        | inl same ↦ absurd (let e = sym assigned.leaf.changed ∙ (ap new.leaf (sym same.1) ∙ held) in cc)
        | inr another ↦ absurd (another.1 (only n (sym (reserved.leaf.others n other.1) ∙ (sym (assigned.leaf.others n another.1) ∙ held))))
      ])
    ]

pub next_held : {K V A : Type 0} (old mid new : Slots (Inner K A) (Leaf K V)) (id next : LeafNodeId) (leaf : Leaf K V) → old.leaf id.0 ≡ Held → old.leaf next.0 ≡ Free → UpdatesLeaf old mid next.0 Held → UpdatesLeaf mid new id.0 (Present leaf) → new.leaf next.0 ≡ Held
next_held old mid new id next leaf held free reserved assigned = assigned.leaf.others next.0 (λ q. let e = sym free ∙ (ap old.leaf q ∙ held) in cc) ∙ reserved.leaf.changed

-- an empty store with one reserved id is the state before the first leaf is added
pub spreading_none : {K V A : Type 0} (cmp : K → K → Ordering) (is_summary : A → List K → Type 0) (old new : Slots (Inner K A) (Leaf K V)) (id : LeafNodeId) (pairs : List (K × V)) → IsEmpty old → UpdatesLeaf old new id.0 Held → IsSpreading cmp is_summary new 16 [] id None pairs pairs
spreading_none {K = K} {V = V} {A = A} cmp is_summary old new id pairs empty reserved = record {
  seated = tt;
  pairs_are = refl;
  leaves = λ n. sym (stored_if_absent (new.leaf n) (absent n));
  no_inner = λ n there. subst IsPresent (inner_free n) there;
  held = reserved.leaf.changed;
  no_other_held = λ n held.
      elim (eqb_tells n id.0) [
        | inl same ↦ same.1
        | inr other ↦ absurd (let e = sym (reserved.leaf.others n other.1 ∙ empty.leaf n) ∙ held in cc)
      ];
  no_inner_held = λ n held. let e = sym (inner_free n) ∙ held in cc;
  linked = tt;
  prev_is = refl;
}
  where
    inner_free : (n : ℕ) → new.inner n ≡ Free
    inner_free n = ap (λ (f : ℕ → Slot (Inner K A)). f n) reserved.inner ∙ empty.inner n

    absent : (n : ℕ) → IsPresent (new.leaf n) → ⊥
    absent n there =
        elim (eqb_tells n id.0) [
          | inl same ↦ subst IsPresent (ap new.leaf same.1 ∙ reserved.leaf.changed) there
          | inr other ↦ subst IsPresent (reserved.leaf.others n other.1 ∙ empty.leaf n) there
        ]

module _ {K V A : Type 0} {cmp : K → K → Ordering} (total' : IsTotalOrder cmp) (is_summary : A → List K → Type 0) (old : Slots (Inner K A) (Leaf K V)) (count : ℕ) (done : List (Subtree K A)) (id : LeafNodeId) (prev : Option LeafNodeId) (all rest pairs : List (K × V)) (first : K) (summary : A) (filled : Leaf K V)
    (fill : IsFilled cmp is_summary all count prev filled first summary rest) where
  pub rest_long : length rest + count ≡ length all
  rest_long = omega (arith, ap length fill.taken, length-append filled.pairs rest, fill.len)

  -- a leaf takes the first of the pairs that are left, and an id is reserved for the next leaf
  pub leaf_spreads : (mid new : Slots (Inner K A) (Leaf K V)) (next : LeafNodeId) (leaf : Leaf K V) → leaf ≡ record filled { next = Some next } → old.leaf next.0 ≡ Free → UpdatesLeaf old mid next.0 Held → UpdatesLeaf mid new id.0 (Present leaf)
      → 16 ≤ count → count ≤ 64 → IsAscending cmp pairs → IsSpreading cmp is_summary old 16 done id prev all pairs → IsSpreading cmp is_summary new 16 (done ++ record { root = kind.Leaf id; first = first; summary = summary } ∷ []) next (Some id) rest pairs
  leaf_spreads mid new next leaf is free reserved assigned enough room ascending spreading =
      spreads total' is_summary old new count done id prev all rest pairs first summary filled leaf spreading ascending fill (ap (λ (l : Leaf K V). l.pairs) is) (ap (λ (l : Leaf K V). l.prev) is)
      (placed_between old mid new id next leaf spreading.held free reserved assigned)
      enough room next (ap (λ (l : Leaf K V). l.next) is)
      (next_held old mid new id next leaf spreading.held free reserved assigned)
      (held_between old mid new id next leaf spreading.no_other_held reserved assigned)

  -- the last leaf takes all pairs that are left
  pub leaf_ends : (new : Slots (Inner K A) (Leaf K V)) → UpdatesLeaf old new id.0 (Present filled) → length all ≡ count → count ≤ 64 → (0 < length done → 16 ≤ count) → IsAscending cmp pairs → IsSpreading cmp is_summary old 16 done id prev all pairs
      → IsLayer cmp is_summary new 0 (done ++ record { root = kind.Leaf id; first = first; summary = summary } ∷ []) pairs
  leaf_ends new assigned whole room enough ascending spreading =
      ends_leaves total' is_summary old new count done id prev all rest pairs first summary filled filled spreading ascending fill refl refl (placed_last old new id filled spreading.held assigned)
      assigned.leaf.others done refl room (ap (λ (l : Leaf K V). l.next) fill.is) (nothing rest (omega (arith, rest_long, whole))) enough

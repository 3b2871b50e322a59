-- Trees whose inner nodes stay and whose leaves keep their pairs read the same, whatever their
-- links. The links are right after a new leaf comes in behind another, or a leaf behind another
-- goes.
use Rattle.std.proofs.Common.{◌≡◌, ℕ, zero, suc, ◌+◌, ◌≤◌, inl, inr, cond, List, [], ◌∷◌, ◌++◌, refl, sym, ap, ◌∙◌, arith, Option, Some, None, eqb}
use Rattle.std.specs.declared.cmp.Ordering.{Ordering}
use Rattle.std.specs.List.{AllByRecursion}
use Rattle.std.proofs.lemmas.Bool.{eq-eqb}
use Rattle.std.proofs.lemmas.Bool.Decides.{eqb_tells}
use Rattle.bptree_nodes.specs.Inner.{Inner}
use Rattle.bptree_nodes.specs.Leaf.{Leaf}
use Rattle.bptree_nodes.specs.Slot.{Slot, Slots, Held, Present, IsPresent}
use Rattle.bptree_keys.specs.declared.node_id.LeafNodeId.{LeafNodeId}
use Rattle.bptree_keys.specs.declared.node_id.NodeId.{NodeId}
use Rattle.bptree_keys.specs.declared.node_id.NodeId.TheVariants as kind
use Rattle.bptree_propagation.specs.Change.{RelinksNext}
use Rattle.bptree_invariant.specs.Edit.{Gains, Loses, SameLinks, LinksAt}
use Rattle.bptree_invariant.specs.Order.{total}
use Rattle.bptree_invariant.specs.Shape.{leaf_pairs, leaf_prev, leaf_next, inner_children, inner_count, stored, AreLinked}
use Rattle.bptree_invariant.proofs.Agreeing.{present_if_stored, stored_if_present}
use Rattle.bptree_invariant.proofs.Hinted.{total-append, count_of, first_or}
use Rattle.bptree_invariant.proofs.Frame.{Same, same_inner}

-- the slot has a leaf of the same pairs as before, whatever its links
pub record KeepsPairs {K V : Type 0} (old new : Slot (Leaf K V)) : Type 0 where
  pub pairs : leaf_pairs new ≡ leaf_pairs old
  pub stored : stored new ≡ stored old

module _ {K V A : Type 0} (cmp : K → K → Ordering) (is_summary : A → List K → Type 0) (old new : Slots (Inner K A) (Leaf K V)) (kept : (n : ℕ) → KeepsPairs (old.leaf n) (new.leaf n)) where
  leaf_reads : (id : LeafNodeId) → Same cmp is_summary old new 0 (kind.Leaf id)
  leaf_reads id =
      let same = kept id.0 in
      record {
        pairs = same.pairs;
        order = refl;
        leaves = λ n. refl;
        inners = λ n. refl;
        tree = λ least lo hi tree. (present_if_stored (new.leaf id.0) (omega (arith, same.stored, stored_if_present (old.leaf id.0) tree.0)), rw same.pairs tree.1, rw same.pairs tree.2, rw same.pairs tree.3, rw same.pairs tree.4);
        summed = λ sums. tt;
      }

  all_read : (h : ℕ) → ((id : NodeId) → ((n : ℕ) → 1 ≤ inner_count old h id n → new.inner n ≡ old.inner n) → Same cmp is_summary old new h id)
      → (cs : List NodeId) → ((n : ℕ) → 1 ≤ total (λ c. inner_count old h c n) cs → new.inner n ≡ old.inner n) → AllByRecursion (Same cmp is_summary old new h) cs
  all_read h below [] stay = tt
  all_read h below (c ∷ cs) stay = (below c (λ n some. stay n (omega (arith, some))), all_read h below cs (λ n some. stay n (omega (arith, some))))

  -- a tree reads the same if each inner node that it reaches stays
  pub reads_same : (h : ℕ) (id : NodeId) → ((n : ℕ) → 1 ≤ inner_count old h id n → new.inner n ≡ old.inner n) → Same cmp is_summary old new h id
  reads_same zero (kind.Leaf id) stay = leaf_reads id
  reads_same zero (kind.Inner id) stay = record { pairs = refl; order = refl; leaves = λ n. refl; inners = λ n. refl; tree = λ least lo hi tree. absurd tree; summed = λ sums. tt }
  reads_same (suc h) (kind.Leaf id) stay = record { pairs = refl; order = refl; leaves = λ n. refl; inners = λ n. refl; tree = λ least lo hi tree. absurd tree; summed = λ sums. tt }
  reads_same (suc h) (kind.Inner id) stay =
      same_inner cmp is_summary old new h id (stay id.0 (rw (eq-eqb id.0 id.0 refl) (omega arith))) (all_read h (reads_same h) (inner_children (old.inner id.0)) (λ n some. stay n (omega (arith, some))))

-- a relinked leaf keeps its pairs, each inner node stays, and no leaf becomes held
module _ {K V A : Type 0} (mid final : Slots (Inner K A) (Leaf K V)) (fresh : LeafNodeId) where
  pub relinked_pairs : (next : Option LeafNodeId) → RelinksNext mid final next fresh → (n : ℕ) → KeepsPairs (mid.leaf n) (final.leaf n)
  relinked_pairs None relinks n = rw relinks (record { pairs = refl; stored = refl })
  relinked_pairs (Some leaf) names n =
      elim (eqb_tells n leaf.0) [
        | inl same ↦ rw (same.1, names.sets.leaf.changed, names.here) (record { pairs = refl; stored = refl })
        | inr other ↦ rw (names.sets.leaf.others n other.1) (record { pairs = refl; stored = refl })
      ]

  pub relinked_inner : (next : Option LeafNodeId) → RelinksNext mid final next fresh → (n : ℕ) → final.inner n ≡ mid.inner n
  relinked_inner None relinks n = ap (λ (slots : Slots (Inner K A) (Leaf K V)). slots.inner n) relinks
  relinked_inner (Some leaf) names n = ap (λ (f : ℕ → Slot (Inner K A)). f n) names.sets.inner

  pub relinked_held : (next : Option LeafNodeId) → RelinksNext mid final next fresh → (n : ℕ) → final.leaf n ≡ Held → mid.leaf n ≡ Held
  relinked_held None relinks n held = ap (λ (slots : Slots (Inner K A) (Leaf K V)). slots.leaf n) (sym relinks) ∙ held
  relinked_held (Some leaf) names n held =
      elim (eqb_tells n leaf.0) [
        | inl same ↦ (let e : Present (record (names.was) { prev = Some fresh }) ≡ Held = sym names.sets.leaf.changed ∙ (ap final.leaf (sym same.1) ∙ held) in cc)
        | inr other ↦ sym (names.sets.leaf.others n other.1) ∙ held
      ]

-- what holds of each id that is counted holds of each leaf
pub each_counted : (P : LeafNodeId → Type 0) (ids : List LeafNodeId) → ((l : LeafNodeId) → 1 ≤ count_of ids l.0 → P l) → AllByRecursion P ids
each_counted P [] each = tt
each_counted P (x ∷ xs) each =
    (each x (rw (eq-eqb x.0 x.0 refl) (omega arith)), each_counted P xs (λ l some. each l (omega (arith, some))))

pub one_at : (a b : ℕ) → a ≡ b → ◌≡◌ {A = ℕ} (cond (eqb a b) 1 0) 1
one_at a b e = rw (eq-eqb a b e) refl

module _ {K V A : Type 0} (old new : Slots (Inner K A) (Leaf K V)) where
  pub same_links : (l : LeafNodeId) → new.leaf l.0 ≡ old.leaf l.0 → SameLinks old new l
  same_links l e = (ap leaf_prev e, ap leaf_next e)

  pub linked_same : (p : Option LeafNodeId) (ids : List LeafNodeId) (q : Option LeafNodeId) → AllByRecursion (SameLinks old new) ids → AreLinked old p ids q → AreLinked new p ids q
  linked_same p [] q same links = tt
  linked_same p (x ∷ []) q same links = (same.0.0 ∙ links.0, same.0.1 ∙ links.1)
  linked_same p (x ∷ y ∷ ys) q same links = (same.0.0 ∙ links.0, same.0.1 ∙ links.1, linked_same (Some x) (y ∷ ys) q same.1 links.2)

  -- the first of some leaves names another as the one before it, and all other links are as they
  -- were
  abbrev pub FirstNames : LeafNodeId → List LeafNodeId → Type 0
  FirstNames fresh [] = Unit {0}
  FirstNames fresh (y ∷ ys) = (leaf_prev (new.leaf y.0) ≡ Some fresh) × (leaf_next (new.leaf y.0) ≡ leaf_next (old.leaf y.0)) × AllByRecursion (SameLinks old new) ys

  behind : (p : Option LeafNodeId) (fresh : LeafNodeId) (ids : List LeafNodeId) (q : Option LeafNodeId) → FirstNames fresh ids → AreLinked old p ids q → AreLinked new (Some fresh) ids q
  behind p fresh [] q names links = tt
  behind p fresh (y ∷ []) q names links = (names.0, names.1 ∙ links.1)
  behind p fresh (y ∷ z ∷ zs) q names links = (names.0, names.1 ∙ links.1, linked_same (Some y) (z ∷ zs) q names.2 links.2)

  -- the links are right if a new leaf comes in behind another
  pub relinked : (p : Option LeafNodeId) (before : List LeafNodeId) (leaf fresh : LeafNodeId) (after : List LeafNodeId) (q : Option LeafNodeId)
      → AllByRecursion (SameLinks old new) before → LinksAt old new leaf (Gains fresh) → FirstNames fresh after → AreLinked old p (before ++ leaf ∷ after) q → AreLinked new p (before ++ leaf ∷ fresh ∷ after) q
  relinked p [] leaf fresh [] q same at names links = (at.0 ∙ links.0, at.1, (at.2, at.3 ∙ links.1))
  relinked p [] leaf fresh (y ∷ ys) q same at names links = (at.0 ∙ links.0, at.1, (at.2, at.3 ∙ links.1, behind (Some leaf) fresh (y ∷ ys) q names links.2))
  relinked p (x ∷ []) leaf fresh after q same at names links = (same.0.0 ∙ links.0, same.0.1 ∙ links.1, relinked (Some x) [] leaf fresh after q tt at names links.2)
  relinked p (x ∷ y ∷ ys) leaf fresh after q same at names links = (same.0.0 ∙ links.0, same.0.1 ∙ links.1, relinked (Some x) (y ∷ ys) leaf fresh after q same.1 at names links.2)

  -- the links are right if a leaf behind another goes
  pub closed : (p : Option LeafNodeId) (before : List LeafNodeId) (leaf gone : LeafNodeId) (after : List LeafNodeId) (q : Option LeafNodeId)
      → AllByRecursion (SameLinks old new) before → LinksAt old new leaf (Loses gone) → FirstNames leaf after → AreLinked old p (before ++ leaf ∷ gone ∷ after) q → AreLinked new p (before ++ leaf ∷ after) q
  closed p [] leaf gone [] q same at names links = (at.0 ∙ links.0, at.1 ∙ links.2.1)
  closed p [] leaf gone (y ∷ ys) q same at names links = (at.0 ∙ links.0, at.1 ∙ links.2.1, behind (Some gone) leaf (y ∷ ys) q names links.2.2)
  closed p (x ∷ []) leaf gone after q same at names links = (same.0.0 ∙ links.0, same.0.1 ∙ links.1, closed (Some x) [] leaf gone after q tt at names links.2)
  closed p (x ∷ y ∷ ys) leaf gone after q same at names links = (same.0.0 ∙ links.0, same.0.1 ∙ links.1, closed (Some x) (y ∷ ys) leaf gone after q same.1 at names links.2)

module _ {K V A : Type 0} (old mid final : Slots (Inner K A) (Leaf K V)) (before : List LeafNodeId) (leaf fresh : LeafNodeId) (untouched : (x : LeafNodeId) → (x.0 ≡ leaf.0 → ⊥) → IsPresent (old.leaf x.0) → SameLinks old mid x) (at : LinksAt old mid leaf (Gains fresh)) where
  module _ (after : List LeafNodeId) (unique : (n : ℕ) → count_of (before ++ leaf ∷ fresh ∷ after) n ≤ 1) (present : (n : ℕ) → 1 ≤ count_of (before ++ leaf ∷ after) n → IsPresent (old.leaf n)) where
    parts : (n : ℕ) → count_of before n + (cond (eqb leaf.0 n) 1 0 + (cond (eqb fresh.0 n) 1 0 + count_of after n)) ≤ 1
    parts n = omega (arith, unique n, total-append (λ (l : LeafNodeId). cond (eqb l.0 n) 1 0) before (leaf ∷ fresh ∷ after))

    some_parts : (n : ℕ) → 1 ≤ count_of before n + count_of after n → IsPresent (old.leaf n)
    some_parts n some = present n (omega (arith, some, total-append (λ (l : LeafNodeId). cond (eqb l.0 n) 1 0) before (leaf ∷ after)))

    -- the leaves before and after the leaf keep their links
    stays : (x : LeafNodeId) → 1 ≤ count_of before x.0 + count_of after x.0 → SameLinks old mid x
    stays x some = untouched x (λ q. omega (arith, some, parts x.0, one_at leaf.0 x.0 (sym q))) (some_parts x.0 some)

  -- once the leaf behind is relinked, the links are right
  pub linked_relinked : (after : List LeafNodeId) → ((n : ℕ) → count_of (before ++ leaf ∷ fresh ∷ after) n ≤ 1) → ((n : ℕ) → 1 ≤ count_of (before ++ leaf ∷ after) n → IsPresent (old.leaf n))
      → RelinksNext mid final (first_or None after) fresh → AreLinked old None (before ++ leaf ∷ after) None → AreLinked final None (before ++ leaf ∷ fresh ∷ after) None
  linked_relinked [] unique present relinks links =
      rw relinks
      (relinked old mid None before leaf fresh [] None
      (each_counted (SameLinks old mid) before (λ l some. stays [] unique present l (omega (arith, some)))) at tt links)
  linked_relinked (y ∷ ys) unique present names links =
      let here : leaf.0 ≡ y.0 → ⊥ = λ q. omega (arith, parts (y ∷ ys) unique present y.0, one_at leaf.0 y.0 q, one_at y.0 y.0 refl) in
      let new : fresh.0 ≡ y.0 → ⊥ = λ q. omega (arith, parts (y ∷ ys) unique present y.0, one_at fresh.0 y.0 q, one_at y.0 y.0 refl) in
      let first : SameLinks old mid y = stays (y ∷ ys) unique present y (omega (arith, one_at y.0 y.0 refl)) in
      let far : (l : LeafNodeId) → 1 ≤ count_of before l.0 + count_of ys l.0 → SameLinks old final l = λ l some.
      rw (names.sets.leaf.others l.0 (λ q. omega (arith, some, parts (y ∷ ys) unique present l.0, one_at y.0 l.0 (sym q)))) (stays (y ∷ ys) unique present l (omega (arith, some))) in
      let at_leaf = names.sets.leaf.others leaf.0 here in
      let at_fresh = names.sets.leaf.others fresh.0 new in
      relinked old final None before leaf fresh (y ∷ ys) None
      (each_counted (SameLinks old final) before (λ l some. far l (omega (arith, some))))
      (rw (at_leaf, at_fresh) at) (
        ap leaf_prev names.sets.leaf.changed,
        ap leaf_next names.sets.leaf.changed ∙ (ap leaf_next (sym names.here) ∙ first.1),
        each_counted (SameLinks old final) ys (λ l some. far l (omega (arith, some))),
      )
      links

-- a leaf behind another goes
module _ {K V A : Type 0} (old mid final : Slots (Inner K A) (Leaf K V)) (before : List LeafNodeId) (leaf gone : LeafNodeId) (after : List LeafNodeId)
    (untouched : (x : LeafNodeId) → (x.0 ≡ leaf.0 → ⊥) → (x.0 ≡ gone.0 → ⊥) → IsPresent (old.leaf x.0) → SameLinks old mid x)
    (unique : (n : ℕ) → count_of (before ++ leaf ∷ gone ∷ after) n ≤ 1) (present : (n : ℕ) → 1 ≤ count_of (before ++ leaf ∷ gone ∷ after) n → IsPresent (old.leaf n)) where
  apart : (n : ℕ) → count_of before n + (cond (eqb leaf.0 n) 1 0 + (cond (eqb gone.0 n) 1 0 + count_of after n)) ≤ 1
  apart n = omega (arith, unique n, total-append (λ (l : LeafNodeId). cond (eqb l.0 n) 1 0) before (leaf ∷ gone ∷ after))

  -- the leaves before and after the two are present, and are others
  pub other_leaf : (x : LeafNodeId) → 1 ≤ count_of before x.0 + count_of after x.0 → (x.0 ≡ leaf.0 → ⊥) × (x.0 ≡ gone.0 → ⊥) × IsPresent (old.leaf x.0)
  other_leaf x some = (
    (λ q. omega (arith, some, apart x.0, one_at leaf.0 x.0 (sym q))),
    (λ q. omega (arith, some, apart x.0, one_at gone.0 x.0 (sym q))),
    present x.0 (omega (arith, some, total-append (λ (l : LeafNodeId). cond (eqb l.0 x.0) 1 0) before (leaf ∷ gone ∷ after))),
  )

  same_far : (x : LeafNodeId) → 1 ≤ count_of before x.0 + count_of after x.0 → SameLinks old mid x
  same_far x some = let o = other_leaf x some in untouched x o.0 o.1 o.2

-- once the leaf behind is relinked, the links are right
pub linked_closed : {K V A : Type 0} (old mid final : Slots (Inner K A) (Leaf K V)) (before : List LeafNodeId) (leaf gone : LeafNodeId) (after : List LeafNodeId) → ((x : LeafNodeId) → (x.0 ≡ leaf.0 → ⊥) → (x.0 ≡ gone.0 → ⊥) → IsPresent (old.leaf x.0) → SameLinks old mid x)
    → LinksAt old mid leaf (Loses gone) → ((n : ℕ) → count_of (before ++ leaf ∷ gone ∷ after) n ≤ 1) → ((n : ℕ) → 1 ≤ count_of (before ++ leaf ∷ gone ∷ after) n → IsPresent (old.leaf n))
    → RelinksNext mid final (first_or None after) leaf → AreLinked old None (before ++ leaf ∷ gone ∷ after) None → AreLinked final None (before ++ leaf ∷ after) None
linked_closed old mid final before leaf gone [] untouched at unique present relinks links =
    rw relinks
    (closed old mid None before leaf gone [] None
    (each_counted (SameLinks old mid) before (λ l some. same_far old mid final before leaf gone [] untouched unique present l (omega (arith, some)))) at tt links)
linked_closed old mid final before leaf gone (y ∷ ys) untouched at unique present names links =
    let here = (other_leaf old mid final before leaf gone (y ∷ ys) untouched unique present y (omega (arith, one_at y.0 y.0 refl))).0 in
    let first : SameLinks old mid y = same_far old mid final before leaf gone (y ∷ ys) untouched unique present y (omega (arith, one_at y.0 y.0 refl)) in
    let far : (l : LeafNodeId) → 1 ≤ count_of before l.0 + count_of ys l.0 → SameLinks old final l = λ l some.
    rw (names.sets.leaf.others l.0 (λ q. omega (arith, some, apart old mid final before leaf gone (y ∷ ys) untouched unique present l.0, one_at y.0 l.0 (sym q)))) (same_far old mid final before leaf gone (y ∷ ys) untouched unique present l (omega (arith, some))) in
    let at_leaf = names.sets.leaf.others leaf.0 (λ q. here (sym q)) in
    closed old final None before leaf gone (y ∷ ys) None
    (each_counted (SameLinks old final) before (λ l some. far l (omega (arith, some))))
    (rw at_leaf at) (
      ap leaf_prev names.sets.leaf.changed,
      ap leaf_next names.sets.leaf.changed ∙ (ap leaf_next (sym names.here) ∙ first.1),
      each_counted (SameLinks old final) ys (λ l some. far l (omega (arith, some))),
    )
    links

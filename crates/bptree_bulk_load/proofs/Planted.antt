-- A leaf that is stored after others, below a tree that is complete except for its leaves.
use Rattle.std.proofs.Common.{◌≡◌, ℕ, suc, ◌+◌, ◌<◌, ◌≤◌, ◌^◌, inl, inr, cond, List, [], ◌∷◌, ◌++◌, length, refl, sym, ap, subst, ◌∙◌, arith, Option, Some, None, eqb, append-nil, append_assoc, length-append}
use Rattle.std.specs.declared.cmp.Ordering.{Ordering}
use Rattle.std.specs.Cmp.{IsTotalOrder}
use Rattle.std.specs.List.{AllByRecursion}
use Rattle.std.specs.Map.{keys_of}
use Rattle.std.proofs.lemmas.Bool.Decides.{eqb_tells}
use Rattle.bptree_keys.specs.Contents.{IsAscending}
use Rattle.bptree_keys.specs.declared.node_id.LeafNodeId.{LeafNodeId}
use Rattle.bptree_keys.specs.declared.node_id.NodeId.{NodeId}
use Rattle.bptree_keys.proofs.PieceLemmas.{AllByRecursion-append}
use Rattle.bptree_nodes.specs.Inner.{Inner}
use Rattle.bptree_nodes.specs.Leaf.{Leaf}
use Rattle.bptree_nodes.specs.Slot.{Slot, Slots, Free, Held, Present, IsEmpty}
use Rattle.bptree_invariant.specs.Edit.{SameLinks}
use Rattle.bptree_invariant.specs.Order.{flat, total}
use Rattle.bptree_invariant.specs.Shape.{leaf_prev, leaf_next, pairs_at, leaves_at, leaf_count, inner_count, stored, AreLinked}
use Rattle.bptree_invariant.proofs.Frame.{Same, all_same}
use Rattle.bptree_invariant.proofs.Hinted.{count_of, count_leaves, total-append}
use Rattle.bptree_invariant.proofs.Ordered.{ascending_after}
use Rattle.bptree_invariant.proofs.Spot.{ascending_before}
use Rattle.bptree_propagation.proofs.Relinked.{each_counted, linked_same}
use Rattle.bptree_bulk_load.specs.Layer.{roots, last_of, with_leaves, IsSeated, IsLayer}
use Rattle.bptree_bulk_load.specs.Rooms.{first_id, held_of, id_count, joined, AreReady, FitsRoom, FitsLeaf, IsFrame, IsPlanted, IsPlanting, IsRoomAdded}
use Rattle.bptree_bulk_load.specs.declared.building.Built.{Built}
use Rattle.bptree_bulk_load.specs.declared.subtree.Subtree.{Subtree}
use Rattle.bptree_bulk_load.proofs.Lists.{flat_end, total_end}
use Rattle.bptree_bulk_load.proofs.Raised.{pairs_same, order_same, leaves_same}
use Rattle.bptree_bulk_load.proofs.Seated.{seated_same}
use Rattle.bptree_bulk_load.proofs.Spread.{last_end, linked_end}

held_is : {N : Type 0} (s : Slot N) (m : ℕ) → held_of s ≡ suc m → s ≡ Held
held_is Free m h = absurd (omega (arith, h))
held_is Held m h = refl
held_is (Present node) m h = absurd (omega (arith, h))

same_number : (n m : ℕ) → n ≡ m → ◌≡◌ {A = ℕ} (cond (eqb n m) 1 0) 1
same_number n m same = elim (eqb_tells n m) [ inl here ↦ rw here.0 refl | inr other ↦ absurd (other.1 same) ]

-- the id of the next leaf is reserved
pub was_held : {K V A : Type 0} {cmp : K → K → Ordering} (is_summary : A → List K → Type 0) (old : Slots (Inner K A) (Leaf K V)) (least : ℕ) (done trees : List (Subtree K A)) (id : LeafNodeId) (ids : List LeafNodeId) (prev : Option LeafNodeId) (parts : List (List (K × V))) (pairs : List (K × V))
    → IsPlanting cmp is_summary old least done trees (id ∷ ids) prev parts pairs → old.leaf id.0 ≡ Held
was_held is_summary old least done trees id ids prev parts pairs planting = held_is (old.leaf id.0) (id_count ids id.0) (omega (arith, planting.held id.0, same_number id.0 id.0 refl))

-- one leaf is stored
module _ {K V A : Type 0} {cmp : K → K → Ordering} (total' : IsTotalOrder cmp) (is_summary : A → List K → Type 0) (old new : Slots (Inner K A) (Leaf K V)) (least : ℕ) (done : List (Subtree K A)) (tree : Subtree K A) (trees : List (Subtree K A)) (id : LeafNodeId) (ids : List LeafNodeId)
    (prev next : Option LeafNodeId) (part : List (K × V)) (parts : List (List (K × V))) (pairs : List (K × V)) (planting : IsPlanting cmp is_summary old least done (tree ∷ trees) (id ∷ ids) prev (part ∷ parts) pairs) (ascending : IsAscending cmp pairs) (next_is : next ≡ first_id ids)
    (updates : IsPlanted old new id part prev next) where
  fit : FitsLeaf cmp is_summary least tree id part
  fit = planting.fits.0

  here : new.leaf id.0 ≡ Present (record { pairs = part; prev = prev; next = next })
  here = updates.leaf.changed

  held : old.leaf id.0 ≡ Held
  held = was_held is_summary old least done (tree ∷ trees) id ids prev (part ∷ parts) pairs planting

  inner_same : (n : ℕ) → new.inner n ≡ old.inner n
  inner_same n = ap (λ (f : ℕ → Slot (Inner K A)). f n) updates.inner

  same_leaf : (n : ℕ) → 1 ≤ total (λ c. leaf_count old 0 c n) (roots done) → new.leaf n ≡ old.leaf n
  same_leaf n some =
      elim (eqb_tells id.0 n) [
        | inl same ↦ absurd (let none : stored (old.leaf n) ≡ 0 = ap (λ m. stored (old.leaf m)) (sym same.1) ∙ ap stored held in omega (arith, some, planting.leaves n, none))
        | inr other ↦ updates.leaf.others n (λ q. other.1 (sym q))
      ]

  same_done : AllByRecursion (Same cmp is_summary old new 0) (roots done)
  same_done = all_same cmp is_summary old new 0 (roots done) (same_leaf, (λ n some. inner_same n))

  parts_are : pairs ≡ flat (pairs_at old 0) (roots done) ++ (part ++ joined parts)
  parts_are = sym planting.pairs_are

  part_ascending : IsAscending cmp part
  part_ascending = ascending_before cmp part (joined parts) (ascending_after total' (flat (pairs_at old 0) (roots done)) (part ++ joined parts) (subst (IsAscending cmp) parts_are ascending))

  at_pairs : pairs_at new 0 tree.root ≡ part
  at_pairs = rw (fit.root, here) refl

  seated_new : AllByRecursion (IsSeated cmp is_summary new least 0) (done ++ tree ∷ [])
  seated_new =
      AllByRecursion-append (IsSeated cmp is_summary new least 0) done (tree ∷ []) (seated_same cmp is_summary old new least 0 done same_done planting.seated) (
        record {
          lies_between = λ lo hi inside. rw (fit.root, here) (tt, rw (fit.root, here) at inside, part_ascending, fit.enough, fit.most);
          first = rw at_pairs fit.starts;
          reported = rw at_pairs fit.reported;
          summed = tt;
        },
        tt,
      )

  new_pairs : flat (pairs_at new 0) (roots (done ++ tree ∷ [])) ++ joined parts ≡ pairs
  new_pairs =
      rw (flat_end (pairs_at new 0) done tree, pairs_same cmp is_summary old new 0 (roots done) same_done, at_pairs)
      (append_assoc (flat (pairs_at old 0) (roots done)) part (joined parts) ∙ sym parts_are)

  stored_now : (n : ℕ) → stored (new.leaf n) ≡ stored (old.leaf n) + cond (eqb id.0 n) 1 0
  stored_now n =
      elim (eqb_tells id.0 n) [
        | inl same ↦
            (let was : stored (old.leaf n) ≡ 0 = ap (λ m. stored (old.leaf m)) (sym same.1) ∙ ap stored held in
            let now : stored (new.leaf n) ≡ 1 = ap (λ m. stored (new.leaf m)) (sym same.1) ∙ ap stored here in
            rw same.0 (omega (arith, was, now)))
        | inr other ↦ (rw (other.0, updates.leaf.others n (λ q. other.1 (sym q))) (omega arith))
      ]

  tree_count : (n : ℕ) → leaf_count new 0 tree.root n ≡ cond (eqb id.0 n) 1 0
  tree_count n = rw fit.root refl

  new_leaves : (n : ℕ) → total (λ c. leaf_count new 0 c n) (roots (done ++ tree ∷ [])) ≡ stored (new.leaf n)
  new_leaves n = omega (arith, total_end (λ c. leaf_count new 0 c n) done tree, leaves_same cmp is_summary old new 0 (roots done) same_done n, tree_count n, planting.leaves n, stored_now n)

  held_now : (n : ℕ) → id_count ids n ≡ held_of (new.leaf n)
  held_now n =
      elim (eqb_tells id.0 n) [
        | inl same ↦
            (let was : held_of (old.leaf n) ≡ 1 = ap (λ m. held_of (old.leaf m)) (sym same.1) ∙ ap held_of held in
            let now : held_of (new.leaf n) ≡ 0 = ap (λ m. held_of (new.leaf m)) (sym same.1) ∙ ap held_of here in
            omega (arith, was, now, rw same.0 at (planting.held n)))
        | inr other ↦ (let same = ap held_of (updates.leaf.others n (λ q. other.1 (sym q))) in omega (arith, same, rw other.0 at (planting.held n)))
      ]

  new_order : flat (leaves_at new 0) (roots (done ++ tree ∷ [])) ≡ flat (leaves_at old 0) (roots done) ++ id ∷ []
  new_order =
      let own : leaves_at new 0 tree.root ≡ id ∷ [] = rw fit.root refl in
      flat_end (leaves_at new 0) done tree ∙ (ap (λ l. l ++ leaves_at new 0 tree.root) (order_same cmp is_summary old new 0 (roots done) same_done) ∙ ap (λ l. flat (leaves_at old 0) (roots done) ++ l) own)

  same_links : (l : LeafNodeId) → 1 ≤ count_of (flat (leaves_at old 0) (roots done)) l.0 → SameLinks old new l
  same_links l some =
      let e = same_leaf l.0 (omega (arith, some, counted (roots done) l.0)) in
      (ap leaf_prev e, ap leaf_next e)
    where
      counted : (cs : List NodeId) (n : ℕ) → total (λ c. leaf_count old 0 c n) cs ≡ count_of (flat (leaves_at old 0) cs) n
      counted [] n = refl
      counted (c ∷ cs) n = omega (arith, count_leaves old 0 c n, counted cs n, total-append (λ (l : LeafNodeId). cond (eqb l.0 n) 1 0) (leaves_at old 0 c) (flat (leaves_at old 0) cs))

  new_linked : AreLinked new None (flat (leaves_at new 0) (roots (done ++ tree ∷ []))) (first_id ids)
  new_linked =
      rw new_order
      (linked_end new None (flat (leaves_at old 0) (roots done)) id (first_id ids)
      (linked_same old new None (flat (leaves_at old 0) (roots done)) (Some id) (each_counted (SameLinks old new) (flat (leaves_at old 0) (roots done)) same_links) planting.linked)
      (ap leaf_prev here ∙ planting.prev_is)
      (ap leaf_next here ∙ next_is))

  pub plants_leaf : IsPlanting cmp is_summary new least (done ++ tree ∷ []) trees ids (Some id) parts pairs
  plants_leaf = record {
    seated = seated_new;
    pairs_are = new_pairs;
    leaves = new_leaves;
    held = held_now;
    inner_free = λ n. inner_same n ∙ planting.inner_free n;
    linked = new_linked;
    prev_is = sym (rw new_order (last_end None (flat (leaves_at old 0) (roots done)) id));
    fits = planting.fits.1;
  }

module _ {K V A : Type 0} {cmp : K → K → Ordering} (is_summary : A → List K → Type 0) (least : ℕ) where
  -- all leaves are stored
  pub planted_all : (slots : Slots (Inner K A) (Leaf K V)) (done trees : List (Subtree K A)) (prev : Option LeafNodeId) (parts : List (List (K × V))) (pairs : List (K × V)) → (1 < length (done ++ trees) → 16 ≤ least) → IsPlanting cmp is_summary slots least done trees [] prev parts pairs → IsLayer cmp is_summary slots 0 (done ++ trees) pairs
  planted_all slots done (tree ∷ trees) prev parts pairs many planting = absurd planting.fits
  planted_all slots done [] prev (part ∷ parts) pairs many planting = absurd planting.fits
  planted_all slots done [] prev [] pairs many planting =
      subst (λ l. IsLayer cmp is_summary slots 0 l pairs) (sym (append-nil done)) (record {
        least = least;
        enough = omega arith;
        many = λ several. many (omega (arith, several, ap length (append-nil done)));
        seated = planting.seated;
        pairs_are = sym (append-nil _) ∙ planting.pairs_are;
        leaves = planting.leaves;
        inners = λ n. none_inner (roots done) n ∙ sym (ap stored (planting.inner_free n));
        no_leaf_held = λ n held. absurd (omega (arith, planting.held n, ap held_of held));
        no_inner_held = λ n held. let e = sym (planting.inner_free n) ∙ held in cc;
        linked = planting.linked;
      })
    where
      none_inner : (cs : List NodeId) (n : ℕ) → total (λ c. inner_count slots 0 c n) cs ≡ 0
      none_inner [] n = refl
      none_inner (c ∷ cs) n = omega (arith, none_inner cs n)

module _ {K V A : Type 0} (cmp : K → K → Ordering) (is_summary : A → List K → Type 0) where
  -- a frame is the state before the first leaf is stored
  pub planting_begins : (slots : Slots (Inner K A) (Leaf K V)) (ids : List LeafNodeId) (built : Built A) (parts : List (List (K × V))) (frame : IsFrame cmp is_summary slots ids built parts) → IsPlanting cmp is_summary (with_leaves frame.base slots.leaf) frame.least [] frame.trees ids None parts (joined parts)
  planting_begins slots ids built parts frame =
      subst (λ leaves. IsPlanting cmp is_summary (with_leaves frame.base leaves) frame.least [] frame.trees ids None parts (joined parts)) (sym frame.same) (record {
        seated = tt;
        pairs_are = refl;
        leaves = λ n. sym (frame.ready.no_leaf n);
        held = frame.ready.held;
        inner_free = frame.ready.inner_free;
        linked = tt;
        prev_is = refl;
        fits = frame.fits;
      })

  pub fits_end : (least : ℕ) (trees : List (Subtree K A)) (ids : List LeafNodeId) (parts : List (List (K × V))) (tree : Subtree K A) (id : LeafNodeId) (part : List (K × V)) → FitsRoom cmp is_summary least trees ids parts → FitsLeaf cmp is_summary least tree id part
      → FitsRoom cmp is_summary least (trees ++ tree ∷ []) (ids ++ id ∷ []) (parts ++ part ∷ [])
  fits_end least [] [] [] tree id part fits fit = (fit, tt)
  fits_end least [] [] (p ∷ parts) tree id part fits fit = absurd fits
  fits_end least [] (i ∷ ids) parts tree id part fits fit = absurd fits
  fits_end least (t ∷ trees) [] parts tree id part fits fit = absurd fits
  fits_end least (t ∷ trees) (i ∷ ids) [] tree id part fits fit = absurd fits
  fits_end least (t ∷ trees) (i ∷ ids) (p ∷ parts) tree id part fits fit = (fits.0, fits_end least trees ids parts tree id part fits.1 fit)

  -- an empty store is the state before the first leaf is planned
  pub ready_none : (slots : Slots (Inner K A) (Leaf K V)) → IsEmpty slots → AreReady slots []
  ready_none slots empty = record {
    held = λ n. sym (ap held_of (empty.leaf n));
    no_leaf = λ n. ap stored (empty.leaf n);
    inner_free = empty.inner;
  }

  module _ (old new : Slots (Inner K A) (Leaf K V)) (ids ids' : List LeafNodeId) (trees trees' : List (Subtree K A)) (first : K) (summary : A) (id : LeafNodeId) (added : IsRoomAdded old new ids ids' trees trees' first summary id) (ready : AreReady old ids) where
    one_more : (n : ℕ) → held_of (new.leaf n) ≡ held_of (old.leaf n) + cond (eqb id.0 n) 1 0
    one_more n =
        elim (eqb_tells id.0 n) [
          | inl same ↦
              (let was : held_of (old.leaf n) ≡ 0 = ap (λ m. held_of (old.leaf m)) (sym same.1) ∙ ap held_of added.was_free in
              let now : held_of (new.leaf n) ≡ 1 = ap (λ m. held_of (new.leaf m)) (sym same.1) ∙ ap held_of added.holds.leaf.changed in
              rw same.0 (omega (arith, was, now)))
          | inr other ↦ (rw (other.0, added.holds.leaf.others n (λ q. other.1 (sym q))) (omega arith))
        ]

    pub ready_more : AreReady new ids'
    ready_more =
        subst (AreReady new) (sym added.ids_are) (record {
          held = λ n. omega (arith, total-append (λ (l : LeafNodeId). cond (eqb l.0 n) 1 0) ids (id ∷ []), one_more n, ready.held n);
          no_leaf = λ n.
              elim (eqb_tells n id.0) [
                | inl same ↦ (ap (λ m. stored (new.leaf m)) same.1 ∙ ap stored added.holds.leaf.changed)
                | inr other ↦ (ap stored (added.holds.leaf.others n other.1) ∙ ready.no_leaf n)
              ];
          inner_free = λ n. ap (λ (f : ℕ → Slot (Inner K A)). f n) added.holds.inner ∙ ready.inner_free n;
        })

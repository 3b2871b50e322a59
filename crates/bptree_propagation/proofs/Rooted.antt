-- Each key of a whole tree can be reached, and the tree is well shaped after an edit.
use Rattle.std.proofs.Common.{◌≡◌, ℕ, suc, ◌+◌, ◌≤◌, inl, inr, cond, List, ◌∷◌, ◌++◌, refl, sym, ap, subst, ◌∙◌, arith, Some, None, eqb, append-nil}
use Rattle.std.specs.declared.cmp.Ordering.{Ordering}
use Rattle.std.specs.Map.{keys_of}
use Rattle.std.proofs.lemmas.Bool.Decides.{eqb_tells}
use Rattle.bptree_nodes.specs.Inner.{Inner}
use Rattle.bptree_nodes.specs.Leaf.{Leaf}
use Rattle.bptree_nodes.specs.Slot.{Slot, Slots, Held, IsPresent}
use Rattle.bptree_keys.specs.declared.node_id.InnerNodeId.{InnerNodeId}
use Rattle.bptree_keys.specs.declared.node_id.LeafNodeId.{LeafNodeId}
use Rattle.bptree_keys.specs.declared.node_id.NodeId.{NodeId}
use Rattle.bptree_keys.specs.declared.node_id.NodeId.TheVariants as kind
use Rattle.bptree_propagation.specs.Change.{Roots, RelinksNext}
use Rattle.bptree_propagation.specs.Climb.{NoneHeld, IsUnlinked}
use Rattle.bptree_invariant.specs.Edit.{CanReach, Turn, Stays, Gains, fresh_of, SameLinks, LinksAt, Edits}
use Rattle.bptree_invariant.specs.Shape.{leaf_next, pairs_at, leaves_at, inner_count, stored, AreLinked, IsWellShaped, root_least}
use Rattle.bptree_invariant.specs.Outcome.{Done, Split}
use Rattle.bptree_invariant.proofs.Hinted.{count_of, count_leaves, first_or, linked_next}
use Rattle.bptree_invariant.proofs.Agreeing.{stored_le, present_if_stored, stored_if_absent}
use Rattle.bptree_invariant.proofs.Frame.{Same}
use Rattle.bptree_propagation.proofs.Relinked.{KeepsPairs, reads_same, linked_same, each_counted, linked_relinked, relinked_pairs, relinked_inner, relinked_held}

module _ {K V A : Type 0} (cmp : K → K → Ordering) (is_summary : A → List K → Type 0) (slots : Slots (Inner K A) (Leaf K V)) where
  -- each key can be reached from the root
  pub reach_of : (h : ℕ) (root : NodeId) (k : K) → IsWellShaped cmp is_summary slots h root → CanReach cmp slots h root k
  reach_of h root k w = record {
    least = root_least h;
    low = None;
    high = None;
    tree = w.tree;
    fits = (tt, tt);
    owns = record { leaves = λ n. omega (arith, w.leaves n); inners = λ n. omega (arith, w.inners n) };
  }

  -- a leaf that is reached is present
  pub present_leaf : (h : ℕ) (root : NodeId) → IsWellShaped cmp is_summary slots h root → (n : ℕ) → 1 ≤ count_of (leaves_at slots h root) n → IsPresent (slots.leaf n)
  present_leaf h root w n some = present_if_stored (slots.leaf n) (omega (arith, some, w.leaves n, count_leaves slots h root n))

module _ {K V A : Type 0} (cmp : K → K → Ordering) (is_summary : A → List K → Type 0) (edit : List (K × V) → List (K × V)) (old new : Slots (Inner K A) (Leaf K V)) (h : ℕ) (root : NodeId) (k : K) (leaf : LeafNodeId)
    (shape : IsWellShaped cmp is_summary old h root) (none_held : NoneHeld new) where
  -- an edit that keeps the root leaves a well-shaped tree, except for the links
  pub done_unlinked : (turn : Turn) → Edits cmp is_summary edit (root_least h) old new h root k leaf turn Done → IsUnlinked cmp is_summary new (root_least h) h root
  done_unlinked turn edits = record {
    tree = edits.tree (root_least h) None None (omega arith) shape.tree (tt, tt);
    leaves = λ n. omega (arith, shape.leaves n, edits.leaves n);
    inners = λ n. omega (arith, shape.inners n, edits.inners n);
    none_held = none_held;
    summed = edits.summed shape.summed;
  }

  -- an edit that keeps all leaves leaves a well-shaped tree
  pub whole_done : Edits cmp is_summary edit (root_least h) old new h root k leaf Stays Done → IsWellShaped cmp is_summary new h root
  whole_done edits =
      let tree = done_unlinked Stays edits in
      let order : leaves_at new h root ≡ leaves_at old h root = edits.order.is ∙ sym edits.order.was in
      record {
        tree = tree.tree;
        leaves = tree.leaves;
        inners = tree.inners;
        no_leaf_held = tree.none_held.leaves;
        no_inner_held = tree.none_held.inners;
        summed = tree.summed;
        linked = rw order (linked_same old new None (leaves_at old h root) None (each_counted (SameLinks old new) (leaves_at old h root) (λ l some. stays l (present_leaf cmp is_summary old h root shape l.0 some))) shape.linked);
      }
    where
      stays : (l : LeafNodeId) → IsPresent (old.leaf l.0) → SameLinks old new l
      stays l there =
          elim (eqb_tells l.0 leaf.0) [
            | inl same ↦ rw same.1 edits.links
            | inr other ↦ (edits.untouched l other.1 tt there).0
          ]

  -- an edit after which a new root is above the old one and a node to its right
  module _ (after : Slots (Inner K A) (Leaf K V)) (turn : Turn) (l : A) (s : K) (right : NodeId) (r : A) (id : InnerNodeId)
      (edits : Edits cmp is_summary edit (root_least h) old new h root k leaf turn (Split s right)) (roots : Roots new after id root l s right r) where
    kept : (n : ℕ) → KeepsPairs (new.leaf n) (after.leaf n)
    kept n = rw roots.leaf (record { pairs = refl; stored = refl })

    not_new : (n : ℕ) → 1 ≤ inner_count new h root n + inner_count new h right n → after.inner n ≡ new.inner n
    not_new n some = roots.sets.others n (λ q. let z : stored (new.inner n) ≡ 0 = rw q (stored_if_absent (new.inner id.0) roots.absent) in omega (arith, some, z, edits.inners n, shape.inners n))

    at_left : Same cmp is_summary new after h root
    at_left = reads_same cmp is_summary new after kept h root (λ n some. not_new n (omega (arith, some)))

    at_right : Same cmp is_summary new after h right
    at_right = reads_same cmp is_summary new after kept h right (λ n some. not_new n (omega (arith, some)))

    one_more : (n : ℕ) → stored (after.inner n) ≡ stored (new.inner n) + cond (eqb id.0 n) 1 0
    one_more n =
        elim (eqb_tells id.0 n) [
          | inl same ↦ (rw (same.0, ← same.1, roots.sets.changed) (omega (arith, stored_if_absent (new.inner id.0) roots.absent)))
          | inr other ↦ (rw (other.0, roots.sets.others n (λ q. other.1 (sym q))) (omega arith))
        ]

    held_inner : (n : ℕ) → after.inner n ≡ Held → ⊥
    held_inner n held =
        elim (eqb_tells n id.0) [
          | inl same ↦ (let e = sym roots.sets.changed ∙ (ap after.inner (sym same.1) ∙ held) in cc)
          | inr other ↦ none_held.inners n (sym (roots.sets.others n other.1) ∙ held)
        ]

    pub split_unlinked : is_summary l (keys_of (pairs_at new h root)) → is_summary r (keys_of (pairs_at new h right)) → IsUnlinked cmp is_summary after 1 (suc h) (kind.Inner id)
    split_unlinked left_told right_told =
        let t = edits.tree (root_least h) None None (omega arith) shape.tree (tt, tt) in
        let sums = edits.summed shape.summed in
        record {
          tree = rw roots.sets.changed (tt, (at_left.tree 16 None (Some s) t.0, t.1, at_right.tree 16 (Some s) None t.2), omega arith, omega arith);
          leaves = λ n. rw (roots.sets.changed, roots.leaf) (omega (arith, shape.leaves n, edits.leaves n, at_left.leaves n, at_right.leaves n));
          inners = λ n. rw roots.sets.changed (omega (arith, shape.inners n, edits.inners n, at_left.inners n, at_right.inners n, one_more n));
          none_held = record { inners = held_inner; leaves = λ n held. none_held.leaves n (ap (λ (f : ℕ → Slot (Leaf K V)). f n) (sym roots.leaf) ∙ held) };
          summed = rw roots.sets.changed ((rw at_left.pairs left_told, (rw at_right.pairs right_told, tt)), (at_left.summed sums.0, (at_right.summed sums.1, tt)));
        }

    pub split_unlinked_order : leaves_at after (suc h) (kind.Inner id) ≡ edits.order.before ++ leaf ∷ (fresh_of turn ++ edits.order.after)
    split_unlinked_order = rw (roots.sets.changed, append-nil, at_left.order, at_right.order) edits.order.is

    pub split_unlinked_pairs : pairs_at after (suc h) (kind.Inner id) ≡ edit (pairs_at old h root)
    split_unlinked_pairs = rw (roots.sets.changed, append-nil, at_left.pairs, at_right.pairs) edits.pairs

-- the links of a whole tree are right after a new leaf comes in
module _ {K V A : Type 0} (cmp : K → K → Ordering) (is_summary : A → List K → Type 0) (old mid final : Slots (Inner K A) (Leaf K V)) (h : ℕ) (root : NodeId) (leaf fresh : LeafNodeId) (before after : List LeafNodeId)
    (shape : IsWellShaped cmp is_summary old h root) (was : leaves_at old h root ≡ before ++ leaf ∷ after) (at : LinksAt old mid leaf (Gains fresh))
    (untouched : (x : LeafNodeId) → (x.0 ≡ leaf.0 → ⊥) → IsPresent (old.leaf x.0) → SameLinks old mid x) (relinks : RelinksNext mid final (leaf_next (old.leaf leaf.0)) fresh) where
  relinked_same : (height : ℕ) (top : NodeId) → Same cmp is_summary mid final height top
  relinked_same height top = reads_same cmp is_summary mid final (relinked_pairs mid final fresh (leaf_next (old.leaf leaf.0)) relinks) height top (λ n some. relinked_inner mid final fresh (leaf_next (old.leaf leaf.0)) relinks n)

  pub relinked_contents : (height : ℕ) (top : NodeId) → pairs_at final height top ≡ pairs_at mid height top
  relinked_contents height top = (relinked_same height top).pairs

  module _ (height : ℕ) (top : NodeId) (tree : IsUnlinked cmp is_summary mid (root_least height) height top) (is : leaves_at mid height top ≡ before ++ leaf ∷ (fresh ∷ after)) where
    links : AreLinked old None (before ++ leaf ∷ after) None
    links = subst (λ ids. AreLinked old None ids None) was shape.linked

    unique : (n : ℕ) → count_of (before ++ leaf ∷ fresh ∷ after) n ≤ 1
    unique n = omega (arith, ap (λ ids. count_of ids n) is, count_leaves mid height top n, tree.leaves n, stored_le (mid.leaf n))

    present : (n : ℕ) → 1 ≤ count_of (before ++ leaf ∷ after) n → IsPresent (old.leaf n)
    present n some = present_leaf cmp is_summary old h root shape n (omega (arith, some, ap (λ ids. count_of ids n) was))

    next_is : leaf_next (old.leaf leaf.0) ≡ first_or None after
    next_is = linked_next old None before leaf after None links

    pub whole_inserted : IsWellShaped cmp is_summary final height top
    whole_inserted =
        let next = leaf_next (old.leaf leaf.0) in
        let same = relinked_same height top in
        record {
          tree = same.tree (root_least height) None None tree.tree;
          leaves = λ n. same.leaves n ∙ (tree.leaves n ∙ sym (relinked_pairs mid final fresh next relinks n).stored);
          inners = λ n. same.inners n ∙ (tree.inners n ∙ ap stored (sym (relinked_inner mid final fresh next relinks n)));
          no_leaf_held = λ n held. tree.none_held.leaves n (relinked_held mid final fresh next relinks n held);
          no_inner_held = λ n held. tree.none_held.inners n (sym (relinked_inner mid final fresh next relinks n) ∙ held);
          summed = same.summed tree.summed;
          linked = rw (same.order, is) (linked_relinked old mid final before leaf fresh untouched at after unique present (subst (λ o. RelinksNext mid final o fresh) next_is relinks) links);
        }

-- a leaf was split, and the leaf behind the new one was relinked
module _ {K V A : Type 0} (cmp : K → K → Ordering) (is_summary : A → List K → Type 0) (edit : List (K × V) → List (K × V)) (old new : Slots (Inner K A) (Leaf K V)) (h : ℕ) (root : NodeId) (k : K) (leaf fresh : LeafNodeId)
    (shape : IsWellShaped cmp is_summary old h root) (none_held : NoneHeld new) where
  -- the tree keeps its root, and is well shaped
  module _ (final : Slots (Inner K A) (Leaf K V)) (edits : Edits cmp is_summary edit (root_least h) old new h root k leaf (Gains fresh) Done) (relinks : RelinksNext new final (leaf_next (old.leaf leaf.0)) fresh) where
    pub whole_grown : IsWellShaped cmp is_summary final h root
    whole_grown =
        whole_inserted cmp is_summary old new final h root leaf fresh edits.order.before edits.order.after shape edits.order.was edits.links (λ x other there. (edits.untouched x other tt there).0) relinks h root
        (done_unlinked cmp is_summary edit old new h root k leaf shape none_held (Gains fresh) edits) edits.order.is

    pub grown_pairs : pairs_at final h root ≡ edit (pairs_at old h root)
    grown_pairs =
        relinked_contents cmp is_summary old new final h root leaf fresh edits.order.before edits.order.after shape edits.order.was edits.links (λ x other there. (edits.untouched x other tt there).0) relinks h root ∙ edits.pairs

  -- the tree has a new root, and is well shaped
  module _ (after final : Slots (Inner K A) (Leaf K V)) (l : A) (s : K) (right : NodeId) (r : A) (id : InnerNodeId) (edits : Edits cmp is_summary edit (root_least h) old new h root k leaf (Gains fresh) (Split s right))
      (roots : Roots new after id root l s right r) (relinks : RelinksNext after final (leaf_next (old.leaf leaf.0)) fresh) where
    links_after : LinksAt old after leaf (Gains fresh)
    links_after = rw roots.leaf edits.links

    untouched_after : (x : LeafNodeId) → (x.0 ≡ leaf.0 → ⊥) → IsPresent (old.leaf x.0) → SameLinks old after x
    untouched_after x other there = rw roots.leaf ((edits.untouched x other tt there).0)

    pub whole_split : is_summary l (keys_of (pairs_at new h root)) → is_summary r (keys_of (pairs_at new h right)) → IsWellShaped cmp is_summary final (suc h) (kind.Inner id)
    whole_split left_told right_told =
        whole_inserted cmp is_summary old after final h root leaf fresh edits.order.before edits.order.after shape edits.order.was links_after untouched_after relinks (suc h) (kind.Inner id)
        (split_unlinked cmp is_summary edit old new h root k leaf shape none_held after (Gains fresh) l s right r id edits roots left_told right_told)
        (split_unlinked_order cmp is_summary edit old new h root k leaf shape none_held after (Gains fresh) l s right r id edits roots)

    pub split_pairs : pairs_at final (suc h) (kind.Inner id) ≡ edit (pairs_at old h root)
    split_pairs =
        relinked_contents cmp is_summary old after final h root leaf fresh edits.order.before edits.order.after shape edits.order.was links_after untouched_after relinks (suc h) (kind.Inner id)
        ∙ split_unlinked_pairs cmp is_summary edit old new h root k leaf shape none_held after (Gains fresh) l s right r id edits roots

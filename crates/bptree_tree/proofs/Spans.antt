-- The leaves of a tree, from the first to the last, span its contents.
use Rattle.std.proofs.Common.{◌≡◌, ℕ, zero, suc, ◌<◌, List, [], ◌∷◌, ◌++◌, length, refl, sym, ap, subst, ◌∙◌, arith, Option, Some, None, append-nil}
use Rattle.std.proofs.lemmas.List.{take_all}
use Rattle.std.specs.declared.cmp.Ordering.{Ordering}
use Rattle.std.specs.List.{AllByRecursion}
use Rattle.bptree_nodes.specs.Inner.{Inner}
use Rattle.bptree_nodes.specs.Leaf.{Leaf}
use Rattle.bptree_nodes.specs.Slot.{Slot, Slots, Free, Held, Present}
use Rattle.bptree_keys.specs.declared.node_id.LeafNodeId.{LeafNodeId}
use Rattle.bptree_keys.specs.declared.node_id.NodeId.{NodeId}
use Rattle.bptree_keys.specs.declared.node_id.NodeId.TheVariants as kind
use Rattle.bptree_invariant.specs.Leaves.{pairs_of, IsFirstLeaf, IsLastLeaf}
use Rattle.bptree_invariant.specs.Shape.{leaf_pairs, leaf_prev, leaf_next, pairs_at, leaves_at, AreLinked, IsWellShaped}
use Rattle.bptree_iter.specs.Span.{IsSpan, leaves_of, leaf_of}
use Rattle.bptree_invariant.proofs.Down.{pairs_of_leaves}
use Rattle.bptree_invariant.proofs.Ends.{leaves_have}

abbrev pub last_in : LeafNodeId → List LeafNodeId → LeafNodeId
last_in x [] = x
last_in x (y ∷ ys) = last_in y ys

last_of_append : (x : LeafNodeId) (before : List LeafNodeId) (last : LeafNodeId) → last_in x (before ++ last ∷ []) ≡ last
last_of_append x [] last = refl
last_of_append x (y ∷ before) last = last_of_append y before last

-- one list, written by its first member and by its last
last_is : (first : LeafNodeId) (after before : List LeafNodeId) (last : LeafNodeId) → first ∷ after ≡ before ++ last ∷ [] → last_in first after ≡ last
last_is first after [] last e = let h : first ≡ last = cc in let t : after ≡ [] = cc in rw (h, t) refl
last_is first after (x ∷ before) last e = let t : after ≡ before ++ last ∷ [] = cc in rw t (last_of_append first before last)

pub some_of : {K V : Type 0} (slot : Slot (Leaf K V)) → 0 < length (leaf_pairs slot) → (leaf : Leaf K V) × (slot ≡ Present leaf) × (0 < length leaf.pairs)
some_of Free h = absurd (omega arith)
some_of Held h = absurd (omega arith)
some_of (Present leaf) h = (leaf, refl, h)

module _ {K V A : Type 0} (slots : Slots (Inner K A) (Leaf K V)) where
  -- linked leaves, each with a pair, span their pairs
  pub span_of : (x : LeafNodeId) (ids : List LeafNodeId) (p q : Option LeafNodeId) → AreLinked slots p (x ∷ ids) q → AllByRecursion (λ (l : LeafNodeId). 0 < length (leaf_pairs (slots.leaf l.0))) (x ∷ ids)
      → IsSpan (leaves_of slots) x 0 ids (last_in x ids) (length (leaf_pairs (slots.leaf (last_in x ids).0))) (pairs_of slots (x ∷ ids))
  span_of x [] p q linked all =
      let at = some_of (slots.leaf x.0) all.0 in
      let long : length (leaf_pairs (slots.leaf x.0)) ≡ length at.0.pairs = ap (λ s. length (leaf_pairs s)) at.1 in
      (at.0, ap leaf_of at.1, refl, omega arith, omega arith, append-nil (leaf_pairs (slots.leaf x.0)) ∙ (ap leaf_pairs at.1 ∙ sym (take_all (length (leaf_pairs (slots.leaf x.0))) at.0.pairs (omega arith))))
  span_of x (y ∷ ys) p q linked all =
      let at = some_of (slots.leaf x.0) all.0 in
      let after = some_of (slots.leaf y.0) all.1.0 in
      let prev : leaf_prev (slots.leaf y.0) ≡ Some x = first_prev ys linked.2 in
      (at.0, after.0, ap leaf_of at.1, sym (ap leaf_next at.1) ∙ linked.1, ap leaf_of after.1, sym (ap leaf_prev after.1) ∙ prev, omega arith, at.2, pairs_of slots (y ∷ ys), ap (λ s. leaf_pairs s ++ pairs_of slots (y ∷ ys)) at.1, span_of y ys (Some x) q linked.2 all.1)
    where
      first_prev : (ys : List LeafNodeId) → AreLinked slots (Some x) (y ∷ ys) q → leaf_prev (slots.leaf y.0) ≡ Some x
      first_prev [] l = l.0
      first_prev (z ∷ zs) l = l.0

module _ {K V A : Type 0} (cmp : K → K → Ordering) (is_summary : A → List K → Type 0) (slots : Slots (Inner K A) (Leaf K V)) where
  same_leaf : (id first last : LeafNodeId) (before after : List LeafNodeId) → id ∷ [] ≡ first ∷ after → id ∷ [] ≡ before ++ last ∷ [] → (first ≡ id) × (after ≡ []) × (last ≡ id)
  same_leaf id first last [] after e f = (cc, cc, cc)
  same_leaf id first last (x ∷ []) after e f = let z : [] ≡ last ∷ [] = cc in cc
  same_leaf id first last (x ∷ y ∷ before) after e f = let z : [] ≡ y ∷ (before ++ last ∷ []) = cc in cc

  -- the leaves of a whole tree span its pairs
  pub tree_span : (h : ℕ) (root : NodeId) (first last : LeafNodeId) (node : Leaf K V) → IsWellShaped cmp is_summary slots h root → (f : IsFirstLeaf slots h root first) → (l : IsLastLeaf slots h root last) → slots.leaf last.0 ≡ Present node
      → IsSpan (leaves_of slots) first 0 f.stored.after last (length node.pairs) (pairs_at slots h root)
  tree_span zero (kind.Inner id) first last node w f l e = absurd w.tree
  tree_span (suc h) (kind.Leaf id) first last node w f l e = absurd w.tree
  tree_span zero (kind.Leaf id) first last node w f l e =
      let a : id ∷ [] ≡ first ∷ f.stored.after = f.stored.leaves ∙ ap (λ before. before ++ first ∷ f.stored.after) f.first in
      let b : id ∷ [] ≡ l.stored.before ++ last ∷ [] = l.stored.leaves ∙ ap (λ after. l.stored.before ++ last ∷ after) l.last in
      let same = same_leaf id first last l.stored.before f.stored.after a b in
      let at : slots.leaf id.0 ≡ Present node = subst (λ (x : LeafNodeId). slots.leaf x.0 ≡ Present node) same.2 e in
      rw (same.0, same.1, same.2, at) (node, refl, refl, omega arith, omega arith, sym (take_all (length node.pairs) node.pairs (omega arith)))
  tree_span (suc h) (kind.Inner id) first last node w f l e =
      let root : NodeId = kind.Inner id in
      let a : leaves_at slots (suc h) (kind.Inner id) ≡ first ∷ f.stored.after = f.stored.leaves ∙ ap (λ before. before ++ first ∷ f.stored.after) f.first in
      let b : leaves_at slots (suc h) (kind.Inner id) ≡ l.stored.before ++ last ∷ [] = l.stored.leaves ∙ ap (λ after. l.stored.before ++ last ∷ after) l.last in
      let all = subst (AllByRecursion (λ (x : LeafNodeId). 0 < length (leaf_pairs (slots.leaf x.0)))) a (leaves_have cmp slots 1 (suc h) (kind.Inner id) None None (omega arith) w.tree) in
      let linked = subst (λ ids. AreLinked slots None ids None) a w.linked in
      let end : last_in first f.stored.after ≡ last = last_is first f.stored.after l.stored.before last (sym a ∙ b) in
      let span = span_of slots first f.stored.after None None linked all in
      let pairs : pairs_at slots (suc h) (kind.Inner id) ≡ pairs_of slots (first ∷ f.stored.after) = sym (pairs_of_leaves slots (suc h) (kind.Inner id)) ∙ ap (pairs_of slots) a in
      rw pairs (subst (λ (n : ℕ). IsSpan (leaves_of slots) first 0 f.stored.after last n (pairs_of slots (first ∷ f.stored.after))) (ap (λ x. length (leaf_pairs x)) e)
      (subst (λ (x : LeafNodeId). IsSpan (leaves_of slots) first 0 f.stored.after x (length (leaf_pairs (slots.leaf x.0))) (pairs_of slots (first ∷ f.stored.after))) end span))

-- The first and the last leaf of a tree, and its first and last pair.
use Rattle.std.proofs.Common.{◌≡◌, ℕ, zero, suc, ◌+◌, ◌-◌, ◌<◌, ◌≤◌, List, [], ◌∷◌, ◌++◌, length, drop, refl, sym, ap, subst, arith, Option, Some, None, append-nil, length-append, slice_get, ◌∙◌}
use Rattle.std.proofs.Common.{Bor, IfSome, IsSome, ◌↔◌, Bool, cond, true, false}
use Rattle.std.specs.Option.{option_map}
use mathlib.Core.Bool.{true≢false}
use Rattle.std.specs.declared.cmp.Ordering.{Ordering}
use Rattle.std.specs.List.{AllByRecursion}
use Rattle.bptree_nodes.specs.Inner.{Inner}
use Rattle.bptree_nodes.specs.Leaf.{Leaf}
use Rattle.bptree_nodes.specs.Slot.{Slots, Present}
use Rattle.bptree_keys.specs.declared.node_id.InnerNodeId.{InnerNodeId}
use Rattle.bptree_keys.specs.declared.node_id.LeafNodeId.{LeafNodeId}
use Rattle.bptree_keys.specs.declared.node_id.NodeId.{NodeId}
use Rattle.bptree_keys.specs.declared.node_id.NodeId.TheVariants as kind
use Rattle.bptree_keys.proofs.PieceLemmas.{AllByRecursion-append}
use Rattle.bptree_invariant.specs.Leaves.{pairs_of, IsLeafOf, IsStored, IsEndLeaf, IsFirstLeaf, IsLastLeaf}
use Rattle.bptree_invariant.specs.Order.{flat, Chain}
use Rattle.bptree_invariant.specs.Shape.{leaf_pairs, inner_keys, inner_children, pairs_at, leaves_at, IsTree, root_least}
use Rattle.bptree_invariant.proofs.Down.{is_stored_above}
use Rattle.bptree_invariant.proofs.Spot.{parts_of_read}

drop_all : {X : Type 0} (xs : List X) (n : ℕ) → length xs ≤ n → drop n xs ≡ []
drop_all [] zero h = refl
drop_all [] (suc n) h = refl
drop_all (x ∷ xs) zero h = absurd (omega arith)
drop_all (x ∷ xs) (suc n) h = drop_all xs n (omega arith)

at_middle : {X : Type 0} (P : X → Type 0) (before : List X) (x : X) (after : List X) → AllByRecursion P (before ++ x ∷ after) → P x
at_middle P [] x after all = all.0
at_middle P (y ∷ before) x after all = at_middle P before x after all.1

-- the index at an end of a nonzero number of items is in range
pub end_within : (is_last : Bool) (count i : ℕ) → 0 < count → i ≡ cond is_last (count - 1) 0 → i < count
end_within true count i some at = omega (arith, some, at)
end_within false count i some at = omega (arith, some, at)

-- the index of the child at an end, by the number of keys, of which there is one fewer than
-- children
pub end_child : (is_last : Bool) (keys children len i : ℕ) → children ≡ keys + 1 → len ≡ keys → i ≡ cond is_last (len + 1 - 1) 0 → i ≡ cond is_last (children - 1) 0
end_child true keys children len i long is at = omega (arith, long, is, at)
end_child false keys children len i long is at = at

pub alone : {X : Type 0} (y : X) (before : List X) (x : X) (after : List X) → y ∷ [] ≡ before ++ x ∷ after → (before ≡ []) × (after ≡ [])
alone y [] x [] e = (refl, refl)
alone y [] x (z ∷ after) e = absurd (omega (arith, ap length e))
alone y (z ∷ before) x after e = absurd (omega (arith, ap length e, length-append before (x ∷ after)))

module _ {K V A : Type 0} (cmp : K → K → Ordering) (slots : Slots (Inner K A) (Leaf K V)) where
  -- the first leaf of the first child is that of the node, and the last leaf of the last child is
  -- that of the node
  pub first_above : (h : ℕ) (id : InnerNodeId) (node : Inner K A) (child : NodeId) (leaf : LeafNodeId) → 0 < h → slots.inner id.0 ≡ Present node → 0 < length node.children → slice_get node.children 0 ≡ Some child
      → IsFirstLeaf slots (h - 1) child leaf → IsFirstLeaf slots h (kind.Inner id) leaf
  first_above zero id node child leaf up e some read first = absurd (omega arith)
  first_above (suc h) id node child leaf up e some read first =
      let same : suc h - 1 ≡ h = omega arith in
      let below : IsFirstLeaf slots h child leaf = subst (λ m. IsFirstLeaf slots m child leaf) same first in
      record { stored = is_stored_above slots h id node e 0 child leaf some read below.stored; first = below.first }

  pub last_above : (h : ℕ) (id : InnerNodeId) (node : Inner K A) (i : ℕ) (child : NodeId) (leaf : LeafNodeId) → 0 < h → slots.inner id.0 ≡ Present node → i + 1 ≡ length node.children → slice_get node.children i ≡ Some child
      → IsLastLeaf slots (h - 1) child leaf → IsLastLeaf slots h (kind.Inner id) leaf
  last_above zero id node i child leaf up e end read last = absurd (omega arith)
  last_above (suc h) id node i child leaf up e end read last =
      let same : suc h - 1 ≡ h = omega arith in
      let below : IsLastLeaf slots h child leaf = subst (λ m. IsLastLeaf slots m child leaf) same last in
      record {
        stored = is_stored_above slots h id node e i child leaf (omega arith) read below.stored;
        last = rw (below.last, drop_all node.children (suc i) (omega arith)) refl;
      }

  pub first_of_leaf : (h : ℕ) (id : LeafNodeId) → IsStored cmp slots h (kind.Leaf id) → IsFirstLeaf slots h (kind.Leaf id) id
  first_of_leaf zero id s = record { stored = record { before = []; after = []; leaves = refl; present = s.tree.0 }; first = refl }
  first_of_leaf (suc h) id s = absurd s.tree

  pub last_of_leaf : (h : ℕ) (id : LeafNodeId) → IsStored cmp slots h (kind.Leaf id) → IsLastLeaf slots h (kind.Leaf id) id
  last_of_leaf zero id s = record { stored = record { before = []; after = []; leaves = refl; present = s.tree.0 }; last = refl }
  last_of_leaf (suc h) id s = absurd s.tree

  -- the leaf at an end of the child at that end is the node's leaf at that end
  pub end_above : (is_last : Bool) (h : ℕ) (id : InnerNodeId) (node : Inner K A) (i : ℕ) (child : NodeId) (leaf : LeafNodeId) → 0 < h → slots.inner id.0 ≡ Present node → 0 < length node.children → i ≡ cond is_last (length node.children - 1) 0
      → slice_get node.children i ≡ Some child → IsEndLeaf slots is_last (h - 1) child leaf → IsEndLeaf slots is_last h (kind.Inner id) leaf
  end_above true h id node i child leaf up e some at read last = last_above h id node i child leaf up e (omega (arith, some, at)) read last
  end_above false h id node i child leaf up e some at read first = first_above h id node child leaf up e some (rw at at read) first

  pub end_of_leaf : (is_last : Bool) (h : ℕ) (id : LeafNodeId) → IsStored cmp slots h (kind.Leaf id) → IsEndLeaf slots is_last h (kind.Leaf id) id
  end_of_leaf true = last_of_leaf
  end_of_leaf false = first_of_leaf

  pub end_is_leaf_of : (is_last : Bool) (h : ℕ) (root : NodeId) (leaf : LeafNodeId) → IsEndLeaf slots is_last h root leaf → IsLeafOf slots h root leaf
  end_is_leaf_of true h root leaf last = last.stored
  end_is_leaf_of false h root leaf first = first.stored

  chain_have : (h : ℕ) → ((c : NodeId) (lo hi : Option K) → IsTree cmp slots 16 h c lo hi → AllByRecursion (λ (l : LeafNodeId). 0 < length (leaf_pairs (slots.leaf l.0))) (leaves_at slots h c)) → (ks : List K) (cs : List NodeId) (lo hi : Option K)
      → Chain cmp (IsTree cmp slots 16 h) ks cs lo hi → AllByRecursion (λ (l : LeafNodeId). 0 < length (leaf_pairs (slots.leaf l.0))) (flat (leaves_at slots h) cs)
  chain_have h each ks [] lo hi c = absurd c
  chain_have h each [] (c ∷ []) lo hi t = rw append-nil (each c lo hi t)
  chain_have h each [] (c ∷ d ∷ cs) lo hi t = absurd t
  chain_have h each (k ∷ ks) (c ∷ cs) lo hi t = AllByRecursion-append _ (leaves_at slots h c) (flat (leaves_at slots h) cs) (each c lo (Some k) t.0) (chain_have h each ks cs (Some k) hi t.2)

  -- each leaf below a root has a pair
  pub leaves_have : (least h : ℕ) (id : NodeId) (lo hi : Option K) → 0 < least → IsTree cmp slots least h id lo hi → AllByRecursion (λ (l : LeafNodeId). 0 < length (leaf_pairs (slots.leaf l.0))) (leaves_at slots h id)
  leaves_have least zero (kind.Leaf id) lo hi some t = (omega (arith, t.3), tt)
  leaves_have least zero (kind.Inner id) lo hi some t = tt
  leaves_have least (suc h) (kind.Leaf id) lo hi some t = tt
  leaves_have least (suc h) (kind.Inner id) lo hi some t =
      chain_have h (λ c a b u. leaves_have 16 h c a b (omega arith) u) (inner_keys (slots.inner id.0)) (inner_children (slots.inner id.0)) lo hi t.1

  -- a leaf without pairs is the only leaf
  pub empty_alone : (h : ℕ) (root : NodeId) (leaf : LeafNodeId) (in' : IsLeafOf slots h root leaf) → IsTree cmp slots (root_least h) h root None None → length (leaf_pairs (slots.leaf leaf.0)) ≡ 0 → (in'.before ≡ []) × (in'.after ≡ [])
  empty_alone zero (kind.Leaf id) leaf in' t none = alone id in'.before leaf in'.after in'.leaves
  empty_alone zero (kind.Inner id) leaf in' t none = absurd t
  empty_alone (suc h) (kind.Leaf id) leaf in' t none = absurd t
  empty_alone (suc h) (kind.Inner id) leaf in' t none =
      let all = leaves_have (root_least (suc h)) (suc h) (kind.Inner id) None None (omega arith) t in
      let some = at_middle (λ (l : LeafNodeId). 0 < length (leaf_pairs (slots.leaf l.0))) in'.before leaf in'.after (subst (AllByRecursion (λ (l : LeafNodeId). 0 < length (leaf_pairs (slots.leaf l.0)))) in'.leaves all) in
      absurd (omega (arith, some))

pub get_right : {X : Type 0} (xs ys : List X) → 0 < length ys → slice_get (xs ++ ys) (length (xs ++ ys) - 1) ≡ slice_get ys (length ys - 1)
get_right [] ys some = refl
get_right (x ∷ xs) ys some =
    let far : length (x ∷ (xs ++ ys)) - 1 ≡ suc (length (xs ++ ys) - 1) = omega (arith, length-append xs ys) in
    rw far (get_right xs ys some)

module _ {K V A : Type 0} (cmp : K → K → Ordering) (slots : Slots (Inner K A) (Leaf K V)) (h : ℕ) (root : NodeId) (tree : IsTree cmp slots (root_least h) h root None None) (leaf : LeafNodeId) (node : Leaf K V) (e : slots.leaf leaf.0 ≡ Present node) where
  -- the first pair of the first leaf is the first of the tree, and the last pair of the last leaf
  -- is the last of the tree
  pub first_pair : IsFirstLeaf slots h root leaf → slice_get node.pairs 0 ≡ slice_get (pairs_at slots h root) 0
  first_pair first = rw (parts_of_read slots h root leaf first.stored node e, first.first) (by_length (node.pairs) (refl))
    where
      by_length : (ps : List (K × V)) → node.pairs ≡ ps → slice_get ps 0 ≡ slice_get (ps ++ pairs_of slots first.stored.after) 0
      by_length [] is = rw (empty_alone cmp slots h root leaf first.stored tree (rw (e, is) refl)).1 refl
      by_length (p ∷ ps) is = refl

  pub last_pair : IsLastLeaf slots h root leaf → slice_get node.pairs (length node.pairs - 1) ≡ slice_get (pairs_at slots h root) (length (pairs_at slots h root) - 1)
  last_pair last = rw (parts_of_read slots h root leaf last.stored node e, last.last, append-nil) (by_length (node.pairs) (refl))
    where
      by_length : (ps : List (K × V)) → node.pairs ≡ ps → slice_get ps (length ps - 1) ≡ slice_get (pairs_of slots last.stored.before ++ ps) (length (pairs_of slots last.stored.before ++ ps) - 1)
      by_length [] is = rw (empty_alone cmp slots h root leaf last.stored tree (rw (e, is) refl)).0 refl
      by_length (p ∷ ps) is = sym (get_right (pairs_of slots last.stored.before) (p ∷ ps) (omega arith))

  -- a leaf of a tree that has pairs has a pair
  pub leaf_some : IsLeafOf slots h root leaf → 0 < length (pairs_at slots h root) → 0 < length node.pairs
  leaf_some in' some = by_length (node.pairs) (refl)
    where
      by_length : (ps : List (K × V)) → node.pairs ≡ ps → 0 < length ps
      by_length [] is =
          let sides = empty_alone cmp slots h root leaf in' tree (rw (e, is) refl) in
          let none : pairs_at slots h root ≡ [] = parts_of_read slots h root leaf in' node e ∙ rw (sides.0, sides.1, is) refl in
          absurd (omega (arith, some, ap length none))
      by_length (p ∷ ps) is = omega arith

  pub end_pair : (is_last : Bool) → IsEndLeaf slots is_last h root leaf → slice_get node.pairs (cond is_last (length node.pairs - 1) 0) ≡ slice_get (pairs_at slots h root) (cond is_last (length (pairs_at slots h root) - 1) 0)
  end_pair true = last_pair
  end_pair false = first_pair

-- a borrowed pair, returned exactly if the index is in range, is the pair at that index
pub shown : {K V : Type 0} (ps : List (K × V)) (i : ℕ) (r : Option (Bor K × Bor V)) → IfSome r (λ p. slice_get ps i ≡ Some (p.0.now, p.1.now)) → IsSome r ↔ (i < length ps) → option_map (λ p. (p.0.now, p.1.now)) r ≡ slice_get ps i
shown ps i None value variant = none_past ps i (λ within. let z : false ≡ true = variant.1 within in absurd (true≢false (sym z)))
  where
    none_past : {X : Type 0} (xs : List X) (i : ℕ) → (i < length xs → ⊥) → None ≡ slice_get xs i
    none_past [] i h = refl
    none_past (x ∷ xs) zero h = absurd (h (omega arith))
    none_past (x ∷ xs) (suc i) h = none_past xs i (λ below. h (omega arith))
shown ps i (Some p) value variant = sym value

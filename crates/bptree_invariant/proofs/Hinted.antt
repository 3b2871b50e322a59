-- A present leaf whose range contains a key is the leaf for that key.
use Rattle.std.proofs.Common.{◌≡◌, ℕ, zero, suc, ◌+◌, ◌≤◌, inl, inr, Bool, true, false, not, cond, List, [], ◌∷◌, ◌++◌, length, refl, sym, ap, subst, ◌∙◌, arith, Option, Some, None, eqb, ◌&&◌, ◌||◌}
use Rattle.std.specs.Prelude.{slice_index_or, is_none}
use mathlib.Core.Bool.{true≢false}
use Rattle.std.specs.declared.cmp.Ordering.{Ordering}
use Rattle.std.specs.declared.cmp.Ordering.TheVariants.{Less, Greater}
use Rattle.std.specs.Ordering.{is_lt, is_gt}
use Rattle.std.specs.Cmp.{IsTotalOrder}
use Rattle.std.specs.Map.{keys_of}
use Rattle.std.proofs.lemmas.Bool.Decides.{eqb_tells}
use Rattle.std.proofs.lemmas.Map.Keys.{sorted_head, sorted_tail}
use Rattle.bptree_keys.specs.Contents.{IsAscending}
use Rattle.bptree_nodes.specs.Inner.{Inner}
use Rattle.bptree_nodes.specs.Leaf.{Leaf, leaf_in_range, reaches_first, reaches_last}
use Rattle.bptree_keys.specs.Indexes.{AllCompare}
use Rattle.bptree_nodes.specs.Slot.{Slot, Slots, Free, Held, Present}
use Rattle.bptree_keys.specs.declared.node_id.LeafNodeId.{LeafNodeId}
use Rattle.bptree_keys.specs.declared.node_id.NodeId.{NodeId}
use Rattle.bptree_keys.specs.declared.node_id.NodeId.TheVariants as kind
use Rattle.bptree_keys.proofs.Ascending.{all_pairs, greater_turned}
use Rattle.bptree_keys.proofs.PieceLemmas.{AllByRecursion-weaker}
use Rattle.bptree_stores.specs.Hint.{HoldsKey}
use Rattle.bptree_invariant.specs.Leaves.{pairs_of, IsLeafOf, IsLeafFor}
use Rattle.bptree_invariant.specs.Order.{flat, total}
use Rattle.bptree_invariant.specs.Shape.{leaf_prev, leaf_next, inner_children, pairs_at, leaves_at, leaf_count, stored, AreLinked, IsWellShaped, root_least}
use Rattle.bptree_invariant.proofs.Ordered.{by_cases, less_then_up, smaller_before, ascending_after}
use Rattle.bptree_invariant.proofs.Spot.{parts_of_read}
use Rattle.bptree_invariant.proofs.Walk.{tree_ascends}

pub total-append : {X : Type 0} (f : X → ℕ) (xs ys : List X) → total f (xs ++ ys) ≡ total f xs + total f ys
total-append f [] ys = omega arith
total-append f (x ∷ xs) ys = omega (arith, total-append f xs ys)

-- how often a node id occurs among leaves
abbrev pub count_of : List LeafNodeId → ℕ → ℕ
count_of ids n = total (λ (l : LeafNodeId). cond (eqb l.0 n) 1 0) ids

module _ {K V A : Type 0} (slots : Slots (Inner K A) (Leaf K V)) where
  count_all : (h : ℕ) → ((id : NodeId) (n : ℕ) → leaf_count slots h id n ≡ count_of (leaves_at slots h id) n) → (cs : List NodeId) (n : ℕ) → total (λ c. leaf_count slots h c n) cs ≡ count_of (flat (leaves_at slots h) cs) n
  count_all h each [] n = refl
  count_all h each (c ∷ cs) n =
      omega (arith, each c n, count_all h each cs n, total-append (λ (l : LeafNodeId). cond (eqb l.0 n) 1 0) (leaves_at slots h c) (flat (leaves_at slots h) cs))

  -- a leaf is reached as often as it occurs among the leaves
  pub count_leaves : (h : ℕ) (id : NodeId) (n : ℕ) → leaf_count slots h id n ≡ count_of (leaves_at slots h id) n
  count_leaves zero (kind.Leaf id) n = omega arith
  count_leaves zero (kind.Inner id) n = refl
  count_leaves (suc h) (kind.Leaf id) n = refl
  count_leaves (suc h) (kind.Inner id) n = count_all h (count_leaves h) (inner_children (slots.inner id.0)) n

-- a leaf with a nonzero count occurs in the list
pub record Among (ids : List LeafNodeId) (leaf : LeafNodeId) : Type 0 where
  pub before : List LeafNodeId
  pub after : List LeafNodeId
  pub parts : ids ≡ before ++ leaf ∷ after

same_number : (l leaf : LeafNodeId) → l.0 ≡ leaf.0 → l ≡ leaf
same_number l leaf e = λ i. record { 0 = e i }

pub among : (ids : List LeafNodeId) (leaf : LeafNodeId) → 1 ≤ count_of ids leaf.0 → Among ids leaf
among [] leaf h = absurd (omega arith)
among (l ∷ ids) leaf h =
    elim (eqb_tells l.0 leaf.0) [
      | inl same ↦ record { before = []; after = ids; parts = ap (λ (x : LeafNodeId). x ∷ ids) (same_number l leaf same.1) }
      | inr other ↦
          (let rest = among ids leaf (let e = other.0 in let g = rw e at h in omega (arith, g)) in
          record { before = l ∷ rest.before; after = rest.after; parts = ap (λ more. l ∷ more) rest.parts })
    ]

-- the last of some leaves, or the first of some leaves, with a default if there is no leaf
abbrev pub last_or : Option LeafNodeId → List LeafNodeId → Option LeafNodeId
last_or p [] = p
last_or p (x ∷ xs) = last_or (Some x) xs

abbrev pub first_or : Option LeafNodeId → List LeafNodeId → Option LeafNodeId
first_or q [] = q
first_or q (y ∷ ys) = Some y

none_before : (x : LeafNodeId) (xs : List LeafNodeId) → last_or (Some x) xs ≡ None → ⊥
none_before x [] e = cc
none_before x (y ∷ ys) e = none_before y ys e

pub none_last : (xs : List LeafNodeId) → last_or None xs ≡ None → xs ≡ []
none_last [] e = refl
none_last (x ∷ xs) e = absurd (none_before x xs e)

pub none_first : (ys : List LeafNodeId) → first_or None ys ≡ None → ys ≡ []
none_first [] e = refl
none_first (y ∷ ys) e = cc

module _ {K V A : Type 0} (slots : Slots (Inner K A) (Leaf K V)) where
  -- the links of a leaf are the leaves before and after it
  pub linked_prev : (p : Option LeafNodeId) (before : List LeafNodeId) (leaf : LeafNodeId) (after : List LeafNodeId) (q : Option LeafNodeId) → AreLinked slots p (before ++ leaf ∷ after) q → leaf_prev (slots.leaf leaf.0) ≡ last_or p before
  linked_prev p [] leaf [] q h = h.0
  linked_prev p [] leaf (y ∷ ys) q h = h.0
  linked_prev p (x ∷ []) leaf after q h = linked_prev (Some x) [] leaf after q h.2
  linked_prev p (x ∷ y ∷ ys) leaf after q h = linked_prev (Some x) (y ∷ ys) leaf after q h.2

  pub linked_next : (p : Option LeafNodeId) (before : List LeafNodeId) (leaf : LeafNodeId) (after : List LeafNodeId) (q : Option LeafNodeId) → AreLinked slots p (before ++ leaf ∷ after) q → leaf_next (slots.leaf leaf.0) ≡ first_or q after
  linked_next p [] leaf [] q h = h.1
  linked_next p [] leaf (y ∷ ys) q h = h.1
  linked_next p (x ∷ []) leaf after q h = linked_next (Some x) [] leaf after q h.2
  linked_next p (x ∷ y ∷ ys) leaf after q h = linked_next (Some x) (y ∷ ys) leaf after q h.2

pub both_true : (a b : Bool) → a && b ≡ true → (a ≡ true) × (b ≡ true)
both_true true b h = (refl, h)
both_true false b h = absurd (true≢false (sym h))

not_true : (b : Bool) → not b ≡ true → b ≡ false
not_true true h = absurd (true≢false (sym h))
not_true false h = refl

module _ {K V : Type 0} {cmp : K → K → Ordering} (total' : IsTotalOrder cmp) (k : K) where
  -- a key that is not below the first pair is above the pairs before it
  reaches_back : (before ps after : List (K × V)) → IsAscending cmp (before ++ (ps ++ after)) → reaches_first cmp (keys_of ps) k ≡ true → AllCompare cmp k Less before
  reaches_back before [] after ascending h = absurd (true≢false (sym h))
  reaches_back before (p ∷ ps) after ascending h =
      AllByRecursion-weaker _ _ (λ (x : K × V) less. less_then_up total' x.0 p.0 k less (not_true (is_lt (cmp k p.0)) h)) before (smaller_before total' before p (ps ++ after) ascending)

  at_last : (p : K × V) (ps after : List (K × V)) (d : K) → IsAscending cmp ((p ∷ ps) ++ after) → is_gt (cmp k (slice_index_or (p.0 ∷ keys_of ps) (length (keys_of ps)) d)) ≡ false → AllCompare cmp k Greater after
  at_last p [] after d ascending h =
      all_pairs (λ key. cmp p.0 key ≡ Less) (λ key. cmp key k ≡ Greater) (λ key less. greater_turned cmp total' k key (up_to k p.0 key h less)) after (sorted_head cmp p.0 (keys_of after) ascending)
    where
      up_to : (x y z : K) → is_gt (cmp x y) ≡ false → cmp y z ≡ Less → cmp x z ≡ Less
      up_to x y z a b = by_cases (cmp x y) (λ e. total'.trans x y z e b) (λ e. total'.congr x y z e ∙ b) (λ e. absurd (true≢false (sym (ap is_gt e) ∙ a)))
  at_last p (q ∷ ps) after d ascending h = at_last q ps after d (sorted_tail cmp p.0 (keys_of ((q ∷ ps) ++ after)) ascending) h

  reaches_on : (ps after : List (K × V)) → IsAscending cmp (ps ++ after) → reaches_last cmp (keys_of ps) k ≡ true → AllCompare cmp k Greater after
  reaches_on [] after ascending h = absurd (true≢false (sym h))
  reaches_on (p ∷ ps) after ascending h = at_last p ps after p.0 ascending (not_true (is_gt (cmp k (slice_index_or (p.0 ∷ keys_of ps) (length (keys_of ps)) p.0))) h)

module _ {K V A : Type 0} {cmp : K → K → Ordering} (total' : IsTotalOrder cmp) (is_summary : A → List K → Type 0) (slots : Slots (Inner K A) (Leaf K V)) (h : ℕ) (root : NodeId) (shape : IsWellShaped cmp is_summary slots h root) where
  -- a present leaf is one of the tree's leaves
  pub present_is_leaf_of : (leaf : LeafNodeId) (node : Leaf K V) → slots.leaf leaf.0 ≡ Present node → IsLeafOf slots h root leaf
  present_is_leaf_of leaf node e =
      let once : leaf_count slots h root leaf.0 ≡ 1 = shape.leaves leaf.0 ∙ ap stored e in
      let at = among (leaves_at slots h root) leaf (omega (arith, once, count_leaves slots h root leaf.0)) in
      record { before = at.before; after = at.after; leaves = at.parts; present = rw e tt }

  ascending : IsAscending cmp (pairs_at slots h root)
  ascending = tree_ascends total' slots (root_least h) h root None None shape.tree

  module _ (k : K) (leaf : LeafNodeId) (node : Leaf K V) (e : slots.leaf leaf.0 ≡ Present node) where
    in' : IsLeafOf slots h root leaf
    in' = present_is_leaf_of leaf node e

    parts : IsAscending cmp (pairs_of slots in'.before ++ (node.pairs ++ pairs_of slots in'.after))
    parts = subst (IsAscending cmp) (parts_of_read slots h root leaf in' node e) ascending

    links : AreLinked slots None (in'.before ++ leaf ∷ in'.after) None
    links = subst (λ ids. AreLinked slots None ids None) in'.leaves shape.linked

    smaller_by : (prev : Option LeafNodeId) → node.prev ≡ prev → (is_none prev || reaches_first cmp (keys_of node.pairs) k) ≡ true → AllCompare cmp k Less (pairs_of slots in'.before)
    smaller_by None is h =
        let none : in'.before ≡ [] = none_last in'.before (sym (linked_prev slots None in'.before leaf in'.after None links) ∙ (ap leaf_prev e ∙ is)) in
        rw none tt
    smaller_by (Some j) is h = reaches_back total' k (pairs_of slots in'.before) node.pairs (pairs_of slots in'.after) parts h

    greater_by : (next : Option LeafNodeId) → node.next ≡ next → (is_none next || reaches_last cmp (keys_of node.pairs) k) ≡ true → AllCompare cmp k Greater (pairs_of slots in'.after)
    greater_by None is h =
        let none : in'.after ≡ [] = none_first in'.after (sym (linked_next slots None in'.before leaf in'.after None links) ∙ (ap leaf_next e ∙ is)) in
        rw none tt
    greater_by (Some j) is h = reaches_on total' k node.pairs (pairs_of slots in'.after) (ascending_after total' (pairs_of slots in'.before) (node.pairs ++ pairs_of slots in'.after) parts) h

    for_range : leaf_in_range cmp node k ≡ true → IsLeafFor cmp slots h root k leaf
    for_range h' =
        let both = both_true (is_none node.prev || reaches_first cmp (keys_of node.pairs) k) (is_none node.next || reaches_last cmp (keys_of node.pairs) k) h' in
        record { stored = in'; smaller = smaller_by node.prev refl both.0; greater = greater_by node.next refl both.1 }

  by_slot : (k : K) (leaf : LeafNodeId) (slot : Slot (Leaf K V)) → slots.leaf leaf.0 ≡ slot → HoldsKey cmp slot k → IsLeafFor cmp slots h root k leaf
  by_slot k leaf Free e holds = absurd holds
  by_slot k leaf Held e holds = absurd holds
  by_slot k leaf (Present node) e holds = for_range k leaf node e holds

  -- a cached leaf that passes the test for the key is the leaf for the key
  pub hinted : (k : K) (leaf : LeafNodeId) → HoldsKey cmp (slots.leaf leaf.0) k → IsLeafFor cmp slots h root k leaf
  hinted k leaf holds = by_slot k leaf (slots.leaf leaf.0) refl holds

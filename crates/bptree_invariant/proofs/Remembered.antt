-- The descent to a cached leaf that can hold the key.
use Rattle.std.proofs.Common.{◌≡◌, ℕ, zero, suc, ◌+◌, ◌-◌, ◌<◌, ◌≤◌, inl, inr, true, not, List, [], ◌∷◌, ◌++◌, length, refl, sym, ap, subst, ◌∙◌, arith, Option, Some, None, slice_get, ◌||◌}
use Rattle.std.specs.Prelude.{slice_index_or, is_none}
use mathlib.Core.Bool.{true≢false}
use Rattle.std.specs.declared.cmp.Ordering.{Ordering}
use Rattle.std.specs.declared.cmp.Ordering.TheVariants.{Less, Equal, Greater}
use Rattle.std.specs.Ordering.{is_lt, is_gt}
use Rattle.std.specs.Cmp.{IsTotalOrder}
use Rattle.std.specs.List.{AllByRecursion}
use Rattle.std.specs.Map.{keys_of}
use Rattle.std.proofs.lemmas.Option.{slice_get_cases}
use Rattle.bptree_keys.proofs.Ascending.{greater_turned, less_turned}
use Rattle.bptree_keys.proofs.PieceLemmas.{AllByRecursion-left, AllByRecursion-right}
use Rattle.bptree_keys.specs.Indexes.{AllCompare}
use Rattle.bptree_keys.specs.declared.node_id.InnerNodeId.{InnerNodeId}
use Rattle.bptree_keys.specs.declared.node_id.LeafNodeId.{LeafNodeId}
use Rattle.bptree_keys.specs.declared.node_id.NodeId.{NodeId}
use Rattle.bptree_keys.specs.declared.node_id.NodeId.TheVariants as kind
use Rattle.bptree_nodes.specs.Inner.{Inner}
use Rattle.bptree_nodes.specs.Leaf.{Leaf, leaf_in_range, reaches_first, reaches_last}
use Rattle.bptree_nodes.specs.Slot.{Slot, Slots, Free, Held, Present, IsPresent}
use Rattle.bptree_stores.specs.Hint.{HoldsKey}
use Rattle.bptree_invariant.specs.Leaves.{pairs_of, IsLeafOf, IsStored, IsLeafFor}
use Rattle.bptree_invariant.specs.Order.{flat, LeadsDown}
use Rattle.bptree_invariant.specs.Path.{Way}
use Rattle.bptree_invariant.specs.Shape.{leaf_pairs, leaf_prev, leaf_next, AreLinked, IsWellShaped, root_least}
use Rattle.bptree_invariant.proofs.Down.{inner_present, node_children, child_is_stored, leaf_for_node, leaf_for_leaf}
use Rattle.bptree_invariant.proofs.Hinted.{both_true, none_last, none_first, linked_prev, linked_next, present_is_leaf_of}
use Rattle.bptree_invariant.proofs.Walk.{flat-append}

node_there : {N : Type 0} (s : Slot N) → IsPresent s → (node : N) × (s ≡ Present node)
node_there Free there = absurd there
node_there Held there = absurd there
node_there (Present node) there = (node, refl)

-- the order of two members of one list: the same member, or one before the other
data Meet {X : Type 0} (before : List X) (x : X) (after : List X) (before' : List X) (y : X) (after' : List X) : Type 0 where
  same : x ≡ y → Meet before x after before' y after'
  behind : (between : List X) → before' ≡ before ++ x ∷ between → after ≡ between ++ y ∷ after' → Meet before x after before' y after'
  ahead : (between : List X) → before ≡ before' ++ y ∷ between → after' ≡ between ++ x ∷ after → Meet before x after before' y after'

meet : {X : Type 0} (before : List X) (x : X) (after before' : List X) (y : X) (after' : List X) → before ++ x ∷ after ≡ before' ++ y ∷ after' → Meet before x after before' y after'
meet [] x after [] y after' e = same (let z : x ≡ y = cc in z)
meet [] x after (b ∷ before') y after' e = behind before' (let z : x ≡ b = cc in ap (λ m. m ∷ before') (sym z)) (let z : after ≡ before' ++ y ∷ after' = cc in z)
meet (b ∷ before) x after [] y after' e = ahead before (let z : b ≡ y = cc in ap (λ m. m ∷ before) z) (let z : before ++ x ∷ after ≡ after' = cc in sym z)
meet (b ∷ before) x after (c ∷ before') y after' e = more (meet before x after before' y after' (let z : before ++ x ∷ after ≡ before' ++ y ∷ after' = cc in z)) (let z : b ≡ c = cc in z) where
  more : Meet before x after before' y after' → b ≡ c → Meet (b ∷ before) x after (c ∷ before') y after'
  more (same e) h = same e
  more (behind between e e') h = behind between (rw e (ap (λ m. m ∷ (before ++ x ∷ between)) (sym h))) e'
  more (ahead between e e') h = ahead between (rw e (ap (λ m. m ∷ (before' ++ y ∷ between)) h)) e'

some_there : {X : Type 0} (xs : List X) (x : X) (ys : List X) → xs ++ x ∷ ys ≡ [] → ⊥
some_there [] x ys e = cc
some_there (z ∷ xs) x ys e = cc

module _ {K V : Type 0} {cmp : K → K → Ordering} (total' : IsTotalOrder cmp) (k : K) where
  -- a key that is not below the first pair is not below all pairs
  not_first : (ps : List (K × V)) → reaches_first cmp (keys_of ps) k ≡ true → AllCompare cmp k Greater ps → ⊥
  not_first [] h all = true≢false (sym h)
  not_first (p ∷ ps) h all = true≢false (sym h ∙ ap (λ o. not (is_lt o)) (less_turned cmp total' p.0 k all.0))

  last_not : (p : K × V) (ps : List (K × V)) (d : K) → not (is_gt (cmp k (slice_index_or (p.0 ∷ keys_of ps) (length (keys_of ps)) d))) ≡ true → AllCompare cmp k Less (p ∷ ps) → ⊥
  last_not p [] d h all = true≢false (sym h ∙ ap (λ o. not (is_gt o)) (greater_turned cmp total' p.0 k all.0))
  last_not p (q ∷ ps) d h all = last_not q ps d h all.1

  -- a key that is not above the last pair is not above all pairs
  not_last : (ps : List (K × V)) → reaches_last cmp (keys_of ps) k ≡ true → AllCompare cmp k Less ps → ⊥
  not_last [] h all = true≢false (sym h)
  not_last (p ∷ ps) h all = last_not p ps p.0 h all

module _ {K V A : Type 0} {cmp : K → K → Ordering} (total' : IsTotalOrder cmp) (slots : Slots (Inner K A) (Leaf K V)) (k : K) where
  by_result : (s : K) (ss : List K) → (i : ℕ) × (i ≤ length ss) × LeadsDown cmp k ss i → (o : Ordering) → cmp k s ≡ o → (i : ℕ) × (i ≤ length ss + 1) × LeadsDown cmp k (s ∷ ss) i
  by_result s ss rest Less e = (0, omega arith, e)
  by_result s ss (i, within, leads) Equal e = (suc i, omega (arith, within), (ap is_lt e, leads))
  by_result s ss (i, within, leads) Greater e = (suc i, omega (arith, within), (ap is_lt e, leads))

  leads_somewhere : (ss : List K) → (i : ℕ) × (i ≤ length ss) × LeadsDown cmp k ss i
  leads_somewhere [] = (0, omega arith, refl)
  leads_somewhere (s ∷ ss) =
      let at = by_result s ss (leads_somewhere ss) (cmp k s) refl in
      (at.0, omega (arith, at.1), at.2)

  -- the leaf that a search for the key ends at
  record Found (h : ℕ) (id : NodeId) : Type 0 where
    leaf : LeafNodeId
    path : List (InnerNodeId × ℕ × NodeId)
    way : Way cmp slots k h id path 0 (kind.Leaf leaf)
    for' : IsLeafFor cmp slots h id k leaf

  child_read : {X : Type 0} (xs : List X) (i : ℕ) → i < length xs → (x : X) × (slice_get xs i ≡ Some x)
  child_read xs i within =
      elim ((slice_get_cases xs i).1) [
        | inl there ↦ (there.0, there.2)
        | inr past ↦ absurd (let p = past.0 in omega (arith, p, within))
      ]

  found : (h : ℕ) (id : NodeId) → IsStored cmp slots h id → Found h id
  found zero (kind.Leaf id) s = record { leaf = id; path = []; way = (refl, refl); for' = leaf_for_leaf total' slots zero id k s }
  found zero (kind.Inner id) s = absurd s.tree
  found (suc h) (kind.Leaf id) s = absurd s.tree
  found (suc h) (kind.Inner id) s =
      let node = node_there (slots.inner id.0) (inner_present total' slots (suc h) id s).0 in
      let at = leads_somewhere node.0.keys in
      let within : at.0 < length node.0.children = omega (arith, at.1, node_children total' slots (suc h) id node.0 s node.1) in
      let child = child_read node.0.children at.0 within in
      let down : suc h - 1 ≡ h = omega arith in
      let below = found h child.0 (subst (λ m. IsStored cmp slots m child.0) down (child_is_stored total' slots (suc h) id node.0 s node.1 at.0 child.0 within child.1)) in
      record {
        leaf = below.leaf;
        path = (id, at.0, child.0) ∷ below.path;
        way = (refl, node.0, node.1, at.2, child.1, below.way);
        for' = leaf_for_node total' slots (suc h) id node.0 k at.0 child.0 below.leaf s node.1 at.2 within child.1 (subst (λ m. IsLeafFor cmp slots m child.0 k below.leaf) (sym down) below.for');
      }

  module _ (is_summary : A → List K → Type 0) (h : ℕ) (root : NodeId) (shape : IsWellShaped cmp is_summary slots h root) (leaf : LeafNodeId) (node : Leaf K V) (e : slots.leaf leaf.0 ≡ Present node) where
    in' : IsLeafOf slots h root leaf
    in' = present_is_leaf_of total' is_summary slots h root shape leaf node e

    links : AreLinked slots None (in'.before ++ leaf ∷ in'.after) None
    links = subst (λ ids. AreLinked slots None ids None) in'.leaves shape.linked

    first_by : (prev : Option LeafNodeId) → node.prev ≡ prev → (is_none prev || reaches_first cmp (keys_of node.pairs) k) ≡ true → (in'.before ≡ [] → ⊥) → reaches_first cmp (keys_of node.pairs) k ≡ true
    first_by None is h' some = absurd (some (none_last in'.before (sym (linked_prev slots None in'.before leaf in'.after None links) ∙ (ap leaf_prev e ∙ is))))
    first_by (Some j) is h' some = h'

    last_by : (next : Option LeafNodeId) → node.next ≡ next → (is_none next || reaches_last cmp (keys_of node.pairs) k) ≡ true → (in'.after ≡ [] → ⊥) → reaches_last cmp (keys_of node.pairs) k ≡ true
    last_by None is h' some = absurd (some (none_first in'.after (sym (linked_next slots None in'.before leaf in'.after None links) ∙ (ap leaf_next e ∙ is))))
    last_by (Some j) is h' some = h'

    inside : (P : K × V → Type 0) (before : List LeafNodeId) (x : LeafNodeId) (after : List LeafNodeId) → AllByRecursion P (pairs_of slots (before ++ x ∷ after)) → AllByRecursion P (leaf_pairs (slots.leaf x.0))
    inside P before x after all =
        let f : LeafNodeId → List (K × V) = λ l. leaf_pairs (slots.leaf l.0) in
        AllByRecursion-left P (f x) (flat f after) (AllByRecursion-right P (flat f before) (f x ++ flat f after) (subst (AllByRecursion P) (flat-append f before (x ∷ after)) all))

    one_leaf : leaf_in_range cmp node k ≡ true → (other : LeafNodeId) → IsLeafFor cmp slots h root k other → leaf ≡ other
    one_leaf range other for' = by (meet in'.before leaf in'.after for'.stored.before other for'.stored.after (sym in'.leaves ∙ for'.stored.leaves)) where
      both : ((is_none node.prev || reaches_first cmp (keys_of node.pairs) k) ≡ true) × ((is_none node.next || reaches_last cmp (keys_of node.pairs) k) ≡ true)
      both = both_true (is_none node.prev || reaches_first cmp (keys_of node.pairs) k) (is_none node.next || reaches_last cmp (keys_of node.pairs) k) range

      by : Meet in'.before leaf in'.after for'.stored.before other for'.stored.after → leaf ≡ other
      by (same is) = is
      by (behind between is after) =
          let all = inside (λ p. cmp p.0 k ≡ Less) in'.before leaf between (subst (λ ids. AllCompare cmp k Less (pairs_of slots ids)) is for'.smaller) in
          absurd (not_last total' k node.pairs (last_by node.next refl both.1 (λ none. some_there between other for'.stored.after (sym after ∙ none))) (subst (λ (s : Slot (Leaf K V)). AllCompare cmp k Less (leaf_pairs s)) e all))
      by (ahead between is after) =
          let all = inside (λ p. cmp p.0 k ≡ Greater) between leaf in'.after (subst (λ ids. AllCompare cmp k Greater (pairs_of slots ids)) after for'.greater) in
          absurd (not_first total' k node.pairs (first_by node.prev refl both.0 (λ none. some_there for'.stored.before other between (sym is ∙ none))) (subst (λ (s : Slot (Leaf K V)). AllCompare cmp k Greater (leaf_pairs s)) e all))

    way_by_range : leaf_in_range cmp node k ≡ true → (path : List (InnerNodeId × ℕ × NodeId)) × Way cmp slots k h root path 0 (kind.Leaf leaf)
    way_by_range range =
        let at = found h root (record { least = root_least h; low = None; high = None; tree = shape.tree }) in
        (at.path, subst (λ l. Way cmp slots k h root at.path 0 (kind.Leaf l)) (sym (one_leaf range at.leaf at.for')) at.way)

  module _ (is_summary : A → List K → Type 0) (h : ℕ) (root : NodeId) (shape : IsWellShaped cmp is_summary slots h root) where
    by_slot : (leaf : LeafNodeId) (slot : Slot (Leaf K V)) → slots.leaf leaf.0 ≡ slot → HoldsKey cmp slot k → (path : List (InnerNodeId × ℕ × NodeId)) × Way cmp slots k h root path 0 (kind.Leaf leaf)
    by_slot leaf Free e holds = absurd holds
    by_slot leaf Held e holds = absurd holds
    by_slot leaf (Present node) e holds = way_by_range is_summary h root shape leaf node e holds

    -- a search for the key ends at the leaf whose range contains the key
    pub way_hinted : (leaf : LeafNodeId) → HoldsKey cmp (slots.leaf leaf.0) k → (path : List (InnerNodeId × ℕ × NodeId)) × Way cmp slots k h root path 0 (kind.Leaf leaf)
    way_hinted leaf holds = by_slot leaf (slots.leaf leaf.0) refl holds

-- One level of a descent: from an inner node to the child that a key leads to.
use Rattle.std.proofs.Common.{◌≡◌, ℕ, zero, suc, ◌+◌, ◌-◌, ◌<◌, List, [], ◌∷◌, ◌++◌, length, get_or, take, drop, refl, sym, ap, subst, ◌∙◌, arith, Option, Some, append_assoc, append-nil, slice_get}
use Rattle.std.specs.declared.cmp.Ordering.{Ordering}
use Rattle.std.specs.declared.cmp.Ordering.TheVariants.{Less, Greater}
use Rattle.std.specs.Cmp.{IsTotalOrder}
use Rattle.std.specs.List.Sorted.{IsStrictlySortedBy}
use Rattle.std.proofs.lemmas.Option.{get_or_from_slice_get}
use Rattle.bptree_nodes.specs.Inner.{Inner, IsChildFor}
use Rattle.bptree_nodes.specs.Leaf.{Leaf}
use Rattle.bptree_nodes.specs.Slot.{Slot, Slots, Present, IsPresent}
use Rattle.bptree_keys.specs.declared.node_id.InnerNodeId.{InnerNodeId}
use Rattle.bptree_keys.specs.declared.node_id.LeafNodeId.{LeafNodeId}
use Rattle.bptree_keys.specs.declared.node_id.NodeId.{NodeId}
use Rattle.bptree_keys.specs.declared.node_id.NodeId.TheVariants as kind
use Rattle.bptree_keys.proofs.PieceLemmas.{AllByRecursion-append}
use Rattle.bptree_invariant.specs.Leaves.{pairs_of, IsLeafOf, IsStored, IsLeafFor}
use Rattle.bptree_invariant.specs.Order.{flat, Chain, LeadsDown}
use Rattle.bptree_invariant.specs.Shape.{leaf_pairs, inner_keys, inner_children, pairs_at, leaves_at, IsTree}
use Rattle.bptree_invariant.proofs.Walk.{flat_parts, flat-append, chain_smaller, chain_greater, chain_length, chain_at, tree_inside, tree_keys, leads_of}

module _ {K V A : Type 0} (slots : Slots (Inner K A) (Leaf K V)) where
  of_all : (h : ℕ) → ((id : NodeId) → pairs_of slots (leaves_at slots h id) ≡ pairs_at slots h id) → (cs : List NodeId) → pairs_of slots (flat (leaves_at slots h) cs) ≡ flat (pairs_at slots h) cs
  of_all h each [] = refl
  of_all h each (c ∷ cs) = flat-append (λ (l : LeafNodeId). leaf_pairs (slots.leaf l.0)) (leaves_at slots h c) (flat (leaves_at slots h) cs) ∙ rw (each c, of_all h each cs) refl

  -- the pairs of a tree are those of its leaves, in their order
  pub pairs_of_leaves : (h : ℕ) (id : NodeId) → pairs_of slots (leaves_at slots h id) ≡ pairs_at slots h id
  pairs_of_leaves zero (kind.Leaf id) = append-nil (leaf_pairs (slots.leaf id.0))
  pairs_of_leaves zero (kind.Inner id) = refl
  pairs_of_leaves (suc h) (kind.Leaf id) = refl
  pairs_of_leaves (suc h) (kind.Inner id) = of_all h (pairs_of_leaves h) (inner_children (slots.inner id.0))

  pub pairs_of_all : (h : ℕ) (cs : List NodeId) → pairs_of slots (flat (leaves_at slots h) cs) ≡ flat (pairs_at slots h) cs
  pairs_of_all h cs = of_all h (pairs_of_leaves h) cs

  -- a leaf of a child is a leaf of the node
  abbrev pub is_stored_above : (h : ℕ) (id : InnerNodeId) (node : Inner K A) (e : slots.inner id.0 ≡ Present node) (i : ℕ) (child : NodeId) (leaf : LeafNodeId) → i < length node.children → slice_get node.children i ≡ Some child → IsLeafOf slots h child leaf → IsLeafOf slots (suc h) (kind.Inner id) leaf
  is_stored_above h id node e i child leaf within read in' =
      let left = flat (leaves_at slots h) (take i node.children) in
      let right = flat (leaves_at slots h) (drop (suc i) node.children) in
      let same : get_or node.children i child ≡ child = get_or_from_slice_get node.children i child child read in
      record {
        before = left ++ in'.before;
        after = in'.after ++ right;
        leaves = rw e (flat_parts (leaves_at slots h) node.children i child within ∙ rw (same, in'.leaves) (ap (λ rest. left ++ rest) (append_assoc in'.before (leaf ∷ in'.after) right) ∙ sym (append_assoc left in'.before (leaf ∷ (in'.after ++ right)))));
        present = in'.present;
      }

module _ {K V A : Type 0} {cmp : K → K → Ordering} (total : IsTotalOrder cmp) (slots : Slots (Inner K A) (Leaf K V)) where
  -- an inner node that was read, with its children one level below
  pub record InnerAt (h : ℕ) (id : InnerNodeId) (node : Inner K A) : Type 0 where
    pub below : ℕ
    pub above : h ≡ suc below
    pub low : Option K
    pub high : Option K
    pub chain : Chain cmp (IsTree cmp slots 16 below) node.keys node.children low high

  pub inner_at : (h : ℕ) (id : InnerNodeId) (node : Inner K A) → IsStored cmp slots h (kind.Inner id) → slots.inner id.0 ≡ Present node → InnerAt h id node
  inner_at zero id node s e = absurd s.tree
  inner_at (suc h) id node s e = record {
    below = h;
    above = refl;
    low = s.low;
    high = s.high;
    chain = subst (λ (x : Slot (Inner K A)). Chain cmp (IsTree cmp slots 16 h) (inner_keys x) (inner_children x) s.low s.high) e s.tree.1;
  }

  pub inner_present : (h : ℕ) (id : InnerNodeId) → IsStored cmp slots h (kind.Inner id) → IsPresent (slots.inner id.0) × (0 < h)
  inner_present zero id s = absurd s.tree
  inner_present (suc h) id s = (s.tree.0, omega arith)

  module _ (h : ℕ) (id : InnerNodeId) (node : Inner K A) (s : IsStored cmp slots h (kind.Inner id)) (e : slots.inner id.0 ≡ Present node) where
    pub node_children : length node.children ≡ length node.keys + 1
    node_children = let at = inner_at h id node s e in chain_length cmp (IsTree cmp slots 16 at.below) node.keys node.children at.low at.high at.chain

    pub node_keys : IsStrictlySortedBy cmp node.keys
    node_keys = let at = inner_at h id node s e in tree_keys total slots 16 at.below (kind.Inner id) at.low at.high node.keys node.children at.chain

    pub node_leads : (k : K) (i : ℕ) → (IsStrictlySortedBy cmp node.keys → IsChildFor cmp k node.keys i) → LeadsDown cmp k node.keys i
    node_leads k i found = leads_of total k node.keys i (found node_keys)

    -- a child is a tree one level below
    pub child_is_stored : (i : ℕ) (child : NodeId) → i < length node.children → slice_get node.children i ≡ Some child → IsStored cmp slots (h - 1) child
    child_is_stored i child within read =
        let at = inner_at h id node s e in
        let there = chain_at cmp (IsTree cmp slots 16 at.below) node.keys node.children at.low at.high i child within at.chain in
        let same : get_or node.children i child ≡ child = get_or_from_slice_get node.children i child child read in
        let down : at.below ≡ h - 1 = let up = at.above in omega arith in
        subst (λ m. IsStored cmp slots m child) down
        (record { least = 16; low = there.0; high = there.1; tree = subst (λ c. IsTree cmp slots 16 at.below c there.0 there.1) same there.2 })

  module _ (h : ℕ) (id : InnerNodeId) (node : Inner K A) (e : slots.inner id.0 ≡ Present node) where
    -- the leaf for a key below the child that it leads to is the leaf for it below the node
    pub leaf_for_above : (k : K) (lo hi : Option K) (i : ℕ) (child : NodeId) (leaf : LeafNodeId) → Chain cmp (IsTree cmp slots 16 h) node.keys node.children lo hi → LeadsDown cmp k node.keys i
        → i < length node.children → slice_get node.children i ≡ Some child → IsLeafFor cmp slots h child k leaf → IsLeafFor cmp slots (suc h) (kind.Inner id) k leaf
    leaf_for_above k lo hi i child leaf chain leads within read for' =
        let inside = λ (c : NodeId) (a b : Option K) (u : IsTree cmp slots 16 h c a b). tree_inside total slots 16 h c a b u in
        let left = flat (leaves_at slots h) (take i node.children) in
        let right = flat (leaves_at slots h) (drop (suc i) node.children) in
        record {
          stored = is_stored_above slots h id node e i child leaf within read for'.stored;
          smaller =
              rw (flat-append (λ (l : LeafNodeId). leaf_pairs (slots.leaf l.0)) left for'.stored.before, pairs_of_all slots h (take i node.children))
              (AllByRecursion-append (λ p. cmp p.0 k ≡ Less) (flat (pairs_at slots h) (take i node.children)) (pairs_of slots for'.stored.before)
              (chain_smaller total (pairs_at slots h) (IsTree cmp slots 16 h) inside k node.keys node.children lo hi i chain leads) for'.smaller);
          greater =
              rw (flat-append (λ (l : LeafNodeId). leaf_pairs (slots.leaf l.0)) for'.stored.after right, pairs_of_all slots h (drop (suc i) node.children))
              (AllByRecursion-append (λ p. cmp p.0 k ≡ Greater) (pairs_of slots for'.stored.after) (flat (pairs_at slots h) (drop (suc i) node.children))
              for'.greater (chain_greater total (pairs_at slots h) (IsTree cmp slots 16 h) inside k node.keys node.children lo hi i chain leads));
        }

  -- `leaf_for_above` at a height h, with the child at the height h - 1
  pub leaf_for_node : (h : ℕ) (id : InnerNodeId) (node : Inner K A) (k : K) (i : ℕ) (child : NodeId) (leaf : LeafNodeId) → IsStored cmp slots h (kind.Inner id) → slots.inner id.0 ≡ Present node
      → LeadsDown cmp k node.keys i → i < length node.children → slice_get node.children i ≡ Some child → IsLeafFor cmp slots (h - 1) child k leaf → IsLeafFor cmp slots h (kind.Inner id) k leaf
  leaf_for_node h id node k i child leaf s e leads within read for' =
      let at = inner_at h id node s e in
      let down : h - 1 ≡ at.below = let up = at.above in omega arith in
      subst (λ m. IsLeafFor cmp slots m (kind.Inner id) k leaf) (sym at.above)
      (leaf_for_above at.below id node e k at.low at.high i child leaf at.chain leads within read (subst (λ m. IsLeafFor cmp slots m child k leaf) down for'))

  -- a leaf is the leaf for each key of its tree
  pub leaf_for_leaf : (h : ℕ) (id : LeafNodeId) (k : K) → IsStored cmp slots h (kind.Leaf id) → IsLeafFor cmp slots h (kind.Leaf id) k id
  leaf_for_leaf zero id k s = record { stored = record { before = []; after = []; leaves = refl; present = s.tree.0 }; smaller = tt; greater = tt }
  leaf_for_leaf (suc h) id k s = absurd s.tree

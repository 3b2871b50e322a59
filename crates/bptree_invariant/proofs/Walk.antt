-- The pairs of a tree are between its bounds and ascend, and a search descends to one child.
use Rattle.std.proofs.Common.{◌≡◌, ℕ, zero, suc, ◌+◌, ◌<◌, List, [], ◌∷◌, ◌++◌, length, get_or, take, drop, refl, sym, ap, ◌∙◌, arith, Option, Some, append_assoc, append-nil, length-append}
use Rattle.std.specs.declared.cmp.Ordering.{Ordering}
use Rattle.std.specs.declared.cmp.Ordering.TheVariants.{Less, Greater}
use Rattle.std.specs.Cmp.{IsTotalOrder}
use Rattle.std.specs.List.{AllByRecursion}
use Rattle.std.specs.List.Sorted.{IsStrictlySortedBy}
use Rattle.bptree_keys.specs.Contents.{IsAscending}
use Rattle.bptree_nodes.specs.Inner.{Inner, IsChildFor}
use Rattle.bptree_nodes.specs.Leaf.{Leaf}
use Rattle.bptree_keys.specs.Indexes.{AllCompare}
use Rattle.bptree_nodes.specs.Slot.{Slots}
use Rattle.bptree_keys.specs.declared.node_id.NodeId.{NodeId}
use Rattle.bptree_keys.specs.declared.node_id.NodeId.TheVariants as kind
use Rattle.bptree_keys.proofs.Ascending.{greater_turned}
use Rattle.bptree_keys.proofs.PieceLemmas.{AllByRecursion-append, AllByRecursion-weaker}
use Rattle.bptree_invariant.specs.Order.{flat, Within, Chain, LeadsDown}
use Rattle.bptree_invariant.specs.Shape.{inner_keys, inner_children, pairs_at, IsTree}
use Rattle.bptree_invariant.proofs.Ordered.{up_then_less, less_then_up, AtLeast-up, Under-less, up_if_not_above, ascending_joined}

-- the lists of all members are those before a member, at it and after it
pub flat_parts : {X Y : Type 0} (f : X → List Y) (xs : List X) (i : ℕ) (d : X) → i < length xs → flat f xs ≡ flat f (take i xs) ++ (f (get_or xs i d) ++ flat f (drop (suc i) xs))
flat_parts f [] i d within = absurd (omega arith)
flat_parts f (x ∷ xs) zero d within = refl
flat_parts f (x ∷ xs) (suc i) d within = ap (λ rest. f x ++ rest) (flat_parts f xs i d (omega arith)) ∙ sym (append_assoc (f x) (flat f (take i xs)) (f (get_or xs i d) ++ flat f (drop (suc i) xs)))

pub flat-append : {X Y : Type 0} (f : X → List Y) (xs ys : List X) → flat f (xs ++ ys) ≡ flat f xs ++ flat f ys
flat-append f [] ys = refl
flat-append f (x ∷ xs) ys = ap (λ rest. f x ++ rest) (flat-append f xs ys) ∙ sym (append_assoc (f x) (flat f xs) (flat f ys))

module _ {C K V : Type 0} {cmp : K → K → Ordering} (total : IsTotalOrder cmp) (f : C → List (K × V)) (P : C → Option K → Option K → Type 0)
    (inside : (c : C) (lo hi : Option K) → P c lo hi → AllByRecursion (λ p. Within cmp lo hi p.0) (f c)) where
  pub chain_inside : (ks : List K) (cs : List C) (lo hi : Option K) → Chain cmp P ks cs lo hi → AllByRecursion (λ p. Within cmp lo hi p.0) (flat f cs)
  chain_inside ks [] lo hi h = absurd h
  chain_inside [] (c ∷ []) lo hi h = AllByRecursion-append _ (f c) [] (inside c lo hi h) tt
  chain_inside [] (c ∷ d ∷ cs) lo hi h = absurd h
  chain_inside (k ∷ ks) (c ∷ cs) lo hi h =
      AllByRecursion-append _ (f c) (flat f cs)
      (AllByRecursion-weaker _ _ (λ p w. (w.0, Under-less total hi p.0 k h.1.1 w.1)) (f c) (inside c lo (Some k) h.0))
      (AllByRecursion-weaker _ _ (λ p w. (AtLeast-up total lo k p.0 h.1.0 w.0, w.1)) (flat f cs) (chain_inside ks cs (Some k) hi h.2))

  pub chain_ascends : ((c : C) (lo hi : Option K) → P c lo hi → IsAscending cmp (f c)) → (ks : List K) (cs : List C) (lo hi : Option K) → Chain cmp P ks cs lo hi → IsAscending cmp (flat f cs)
  chain_ascends each ks [] lo hi h = absurd h
  chain_ascends each [] (c ∷ []) lo hi h = rw append-nil (each c lo hi h)
  chain_ascends each [] (c ∷ d ∷ cs) lo hi h = absurd h
  chain_ascends each (k ∷ ks) (c ∷ cs) lo hi h =
      ascending_joined total (f c) (flat f cs) k (each c lo (Some k) h.0) (chain_ascends each ks cs (Some k) hi h.2)
      (AllByRecursion-weaker _ _ (λ p w. w.1) (f c) (inside c lo (Some k) h.0))
      (AllByRecursion-weaker _ _ (λ p w. w.0) (flat f cs) (chain_inside ks cs (Some k) hi h.2))

  -- the children before the one that a key leads to have smaller keys, and those after it greater
  -- ones
  pub chain_smaller : (k : K) (ks : List K) (cs : List C) (lo hi : Option K) (i : ℕ) → Chain cmp P ks cs lo hi → LeadsDown cmp k ks i → AllCompare cmp k Less (flat f (take i cs))
  chain_smaller k ks [] lo hi i h leads = absurd h
  chain_smaller k [] (c ∷ []) lo hi i h leads = rw leads tt
  chain_smaller k [] (c ∷ d ∷ cs) lo hi i h leads = absurd h
  chain_smaller k (s ∷ ss) (c ∷ cs) lo hi zero h leads = tt
  chain_smaller k (s ∷ ss) (c ∷ cs) lo hi (suc i) h leads =
      AllByRecursion-append _ (f c) (flat f (take i cs))
      (AllByRecursion-weaker _ _ (λ p w. less_then_up total p.0 s k w.1 leads.0) (f c) (inside c lo (Some s) h.0))
      (chain_smaller k ss cs (Some s) hi i h.2 leads.1)

  pub chain_greater : (k : K) (ks : List K) (cs : List C) (lo hi : Option K) (i : ℕ) → Chain cmp P ks cs lo hi → LeadsDown cmp k ks i → AllCompare cmp k Greater (flat f (drop (suc i) cs))
  chain_greater k ks [] lo hi i h leads = absurd h
  chain_greater k [] (c ∷ []) lo hi i h leads = rw leads tt
  chain_greater k [] (c ∷ d ∷ cs) lo hi i h leads = absurd h
  chain_greater k (s ∷ ss) (c ∷ cs) lo hi zero h leads =
      AllByRecursion-weaker _ _ (λ p w. greater_turned cmp total k p.0 (less_then_up total k s p.0 leads w.0)) (flat f cs) (chain_inside ss cs (Some s) hi h.2)
  chain_greater k (s ∷ ss) (c ∷ cs) lo hi (suc i) h leads = chain_greater k ss cs (Some s) hi i h.2 leads.1

module _ {C K : Type 0} (cmp : K → K → Ordering) (P : C → Option K → Option K → Type 0) where
  pub chain_index : (k : K) (ks : List K) (cs : List C) (lo hi : Option K) (i : ℕ) → Chain cmp P ks cs lo hi → LeadsDown cmp k ks i → i < length cs
  chain_index k ks [] lo hi i h leads = absurd h
  chain_index k [] (c ∷ []) lo hi i h leads = omega arith
  chain_index k [] (c ∷ d ∷ cs) lo hi i h leads = absurd h
  chain_index k (s ∷ ss) (c ∷ cs) lo hi zero h leads = omega arith
  chain_index k (s ∷ ss) (c ∷ cs) lo hi (suc i) h leads = omega (arith, chain_index k ss cs (Some s) hi i h.2 leads.1)

  pub chain_length : (ks : List K) (cs : List C) (lo hi : Option K) → Chain cmp P ks cs lo hi → length cs ≡ length ks + 1
  chain_length ks [] lo hi h = absurd h
  chain_length [] (c ∷ []) lo hi h = omega arith
  chain_length [] (c ∷ d ∷ cs) lo hi h = absurd h
  chain_length (k ∷ ks) (c ∷ cs) lo hi h = omega (arith, chain_length ks cs (Some k) hi h.2)

  -- P holds of each child with some bounds
  pub chain_at : (ks : List K) (cs : List C) (lo hi : Option K) (i : ℕ) (d : C) → i < length cs → Chain cmp P ks cs lo hi → (a : Option K) × (b : Option K) × P (get_or cs i d) a b
  chain_at ks [] lo hi i d h c = absurd c
  chain_at [] (c ∷ []) lo hi zero d h e = (lo, hi, e)
  chain_at [] (c ∷ []) lo hi (suc i) d h e = absurd (omega arith)
  chain_at [] (c ∷ x ∷ cs) lo hi i d h e = absurd e
  chain_at (k ∷ ks) (c ∷ cs) lo hi zero d h e = (lo, Some k, e.0)
  chain_at (k ∷ ks) (c ∷ cs) lo hi (suc i) d h e = chain_at ks cs (Some k) hi i d (omega arith) e.2

module _ {C K : Type 0} {cmp : K → K → Ordering} (total : IsTotalOrder cmp) (P : C → Option K → Option K → Type 0) (gap : (c : C) (a b : K) → P c (Some a) (Some b) → cmp a b ≡ Less) where
  -- the separators strictly ascend, because a key is between each two of them
  keys_above : (a : K) (ks : List K) (cs : List C) (hi : Option K) → Chain cmp P ks cs (Some a) hi → AllByRecursion (λ s. cmp a s ≡ Less) ks
  keys_above a ks [] hi h = absurd h
  keys_above a [] (c ∷ cs) hi h = tt
  keys_above a (k ∷ ks) (c ∷ cs) hi h =
      let less = gap c a k h.0 in
      (less, AllByRecursion-weaker _ _ (λ s above. total.trans a k s less above) ks (keys_above k ks cs hi h.2))

  pub chain_keys : (ks : List K) (cs : List C) (lo hi : Option K) → Chain cmp P ks cs lo hi → IsStrictlySortedBy cmp ks
  unfolding IsStrictlySortedBy
  chain_keys [] cs lo hi h = tt
  chain_keys (k ∷ ks) [] lo hi h = absurd h
  chain_keys (k ∷ ks) (c ∷ cs) lo hi h = (keys_above k ks cs hi h.2, chain_keys ks cs (Some k) hi h.2)

-- the index of the child that may hold a key, as a search finds it
module _ {K : Type 0} {cmp : K → K → Ordering} (total : IsTotalOrder cmp) (k : K) where
  pub leads_of : (ks : List K) (i : ℕ) → IsChildFor cmp k ks i → LeadsDown cmp k ks i
  leads_of [] i for' = omega (arith, for'.within)
  leads_of (s ∷ ss) zero for' = for'.after.0
  leads_of (s ∷ ss) (suc i) for' = (up_if_not_above total s k for'.before.0, leads_of ss i (record { within = omega (arith, for'.within); before = for'.before.1; after = for'.after }))

module _ {K V A : Type 0} {cmp : K → K → Ordering} (total : IsTotalOrder cmp) (slots : Slots (Inner K A) (Leaf K V)) where
  pub tree_inside : (least h : ℕ) (id : NodeId) (lo hi : Option K) → IsTree cmp slots least h id lo hi → AllByRecursion (λ p. Within cmp lo hi p.0) (pairs_at slots h id)
  tree_inside least zero (kind.Leaf id) lo hi t = t.1
  tree_inside least zero (kind.Inner id) lo hi t = tt
  tree_inside least (suc h) (kind.Inner id) lo hi t =
      chain_inside total (pairs_at slots h) (IsTree cmp slots 16 h) (λ c a b u. tree_inside 16 h c a b u)
      (inner_keys (slots.inner id.0)) (inner_children (slots.inner id.0)) lo hi t.1
  tree_inside least (suc h) (kind.Leaf id) lo hi t = tt

  pub tree_ascends : (least h : ℕ) (id : NodeId) (lo hi : Option K) → IsTree cmp slots least h id lo hi → IsAscending cmp (pairs_at slots h id)
  tree_ascends least zero (kind.Leaf id) lo hi t = t.2
  tree_ascends least zero (kind.Inner id) lo hi t = absurd t
  tree_ascends least (suc h) (kind.Inner id) lo hi t =
      chain_ascends total (pairs_at slots h) (IsTree cmp slots 16 h) (λ c a b u. tree_inside 16 h c a b u) (λ c a b u. tree_ascends 16 h c a b u)
      (inner_keys (slots.inner id.0)) (inner_children (slots.inner id.0)) lo hi t.1
  tree_ascends least (suc h) (kind.Leaf id) lo hi t = absurd t

  chain_some : (h : ℕ) → ((c : NodeId) (lo hi : Option K) → IsTree cmp slots 16 h c lo hi → 0 < length (pairs_at slots h c)) → (ks : List K) (cs : List NodeId) (lo hi : Option K) → Chain cmp (IsTree cmp slots 16 h) ks cs lo hi → 0 < length (flat (pairs_at slots h) cs)
  chain_some h each ks [] lo hi c = absurd c
  chain_some h each [] (c ∷ []) lo hi t = omega (arith, each c lo hi t, length-append (pairs_at slots h c) [])
  chain_some h each [] (c ∷ d ∷ cs) lo hi t = absurd t
  chain_some h each (k ∷ ks) (c ∷ cs) lo hi t = omega (arith, each c lo (Some k) t.0, length-append (pairs_at slots h c) (flat (pairs_at slots h) cs))

  -- each tree below a root has a pair
  pub tree_some : (least h : ℕ) (id : NodeId) (lo hi : Option K) → 0 < least → IsTree cmp slots least h id lo hi → 0 < length (pairs_at slots h id)
  tree_some least zero (kind.Leaf id) lo hi some t = omega (arith, t.3)
  tree_some least zero (kind.Inner id) lo hi some t = absurd t
  tree_some least (suc h) (kind.Inner id) lo hi some t =
      chain_some h (λ c a b u. tree_some 16 h c a b (omega arith) u) (inner_keys (slots.inner id.0)) (inner_children (slots.inner id.0)) lo hi t.1
  tree_some least (suc h) (kind.Leaf id) lo hi some t = absurd t

  gap_of : (ps : List (K × V)) (a b : K) → 0 < length ps → AllByRecursion (λ p. Within cmp (Some a) (Some b) p.0) ps → cmp a b ≡ Less
  gap_of [] a b some all = absurd (omega arith)
  gap_of (p ∷ ps) a b some all = up_then_less total a p.0 b all.0.0 all.0.1

  -- the keys of an inner node strictly ascend
  pub tree_keys : (least h : ℕ) (id : NodeId) (lo hi : Option K) (ks : List K) (cs : List NodeId) → Chain cmp (IsTree cmp slots 16 h) ks cs lo hi → IsStrictlySortedBy cmp ks
  tree_keys least h id lo hi ks cs chain =
      chain_keys total (IsTree cmp slots 16 h) (λ c a b t. gap_of (pairs_at slots h c) a b (tree_some 16 h c (Some a) (Some b) (omega arith) t) (tree_inside 16 h c (Some a) (Some b) t)) ks cs lo hi chain

-- Descents along a path.
use Rattle.std.proofs.Common.{◌≡◌, ℕ, zero, suc, ◌≤◌, List, [], ◌∷◌, ◌++◌, length, refl, sym, ap, subst, arith, Some, slice_get, length-append}
use Rattle.std.specs.declared.cmp.Ordering.{Ordering}
use Rattle.std.specs.List.{AllByRecursion}
use Rattle.std.proofs.lemmas.Option.{get_or_from_slice_get}
use Rattle.bptree_nodes.specs.Inner.{Inner}
use Rattle.bptree_nodes.specs.Leaf.{Leaf}
use Rattle.bptree_nodes.specs.Slot.{Slot, Slots, Present}
use Rattle.bptree_keys.specs.declared.node_id.InnerNodeId.{InnerNodeId}
use Rattle.bptree_keys.specs.declared.node_id.NodeId.{NodeId}
use Rattle.bptree_keys.specs.declared.node_id.NodeId.TheVariants as kind
use Rattle.bptree_keys.proofs.PieceLemmas.{AllByRecursion-at}
use Rattle.bptree_invariant.specs.Edit.{CanReach}
use Rattle.bptree_invariant.specs.Order.{flat, LeadsDown}
use Rattle.bptree_invariant.specs.Path.{Way}
use Rattle.bptree_invariant.specs.Shape.{inner_children, pairs_at, IsSummed}
use Rattle.bptree_invariant.proofs.Widen.{child_can, child_index}

in_flat : {X Y : Type 0} (f : X → List Y) (xs : List X) (i : ℕ) (x : X) → slice_get xs i ≡ Some x → length (f x) ≤ length (flat f xs)
in_flat f [] i x read = cc
in_flat f (y ∷ xs) zero x read = let same : y ≡ x = cc in omega (arith, length-append (f y) (flat f xs), ap (λ z. length (f z)) same)
in_flat f (y ∷ xs) (suc i) x read = omega (arith, length-append (f y) (flat f xs), in_flat f xs i x read)

module _ {K V A : Type 0} (cmp : K → K → Ordering) (slots : Slots (Inner K A) (Leaf K V)) (k : K) where
  -- the last entry of a path, and the descent to its node
  pub record LastStep (top : ℕ) (root : NodeId) (path : List (InnerNodeId × ℕ × NodeId)) (number : InnerNodeId) (i : ℕ) (h : ℕ) (id : NodeId) : Type 0 where
    pub node : Inner K A
    pub is : slots.inner number.0 ≡ Present node
    pub leads : LeadsDown cmp k node.keys i
    pub read : slice_get node.children i ≡ Some id
    pub way : Way cmp slots k top root path (suc h) (kind.Inner number)

  pub way_last : (path : List (InnerNodeId × ℕ × NodeId)) (number : InnerNodeId) (i : ℕ) (child : NodeId) (top : ℕ) (root : NodeId) (h : ℕ) (id : NodeId) → Way cmp slots k top root (path ++ (number, i, child) ∷ []) h id
      → LastStep top root path number i h id
  way_last [] number i child zero root h id way = absurd way
  way_last [] number i child (suc m) root h id (e, node, is, leads, read, (same, at)) = record {
    node = node;
    is = is;
    leads = leads;
    read = subst (λ c. slice_get node.children i ≡ Some c) at read;
    way = (ap suc same, e);
  }
  way_last (entry ∷ path) number i child zero root h id way = absurd way
  way_last ((n, j, c) ∷ path) number i child (suc m) root h id (e, node, is, leads, read, below) =
      let r = way_last path number i child m c h id below in
      record { node = r.node; is = r.is; leads = r.leads; read = r.read; way = (e, node, is, leads, read, r.way) }

  -- a descent with one more entry
  pub way_more : (path : List (InnerNodeId × ℕ × NodeId)) (number : InnerNodeId) (i : ℕ) (child : NodeId) (top : ℕ) (root : NodeId) (h : ℕ) (node : Inner K A) → Way cmp slots k top root path (suc h) (kind.Inner number)
      → slots.inner number.0 ≡ Present node → LeadsDown cmp k node.keys i → slice_get node.children i ≡ Some child → Way cmp slots k top root (path ++ (number, i, child) ∷ []) h child
  way_more [] number i child top root h node way is leads read =
      subst (λ t. Way cmp slots k t root ((number, i, child) ∷ []) h child) (sym way.0) (way.1, node, is, leads, read, (refl, refl))
  way_more (entry ∷ path) number i child zero root h node way is leads read = absurd way
  way_more ((n, j, c) ∷ path) number i child (suc m) root h node (e, other, at, leads', read', below) is leads read =
      (e, other, at, leads', read', way_more path number i child m c h node below is leads read)

  -- the key can be reached from the node at the end of a path
  pub way_can : (path : List (InnerNodeId × ℕ × NodeId)) (top : ℕ) (root : NodeId) (h : ℕ) (id : NodeId) → Way cmp slots k top root path h id → CanReach cmp slots top root k → CanReach cmp slots h id k
  way_can [] top root h id way can = subst (λ x. CanReach cmp slots h x k) way.1 (subst (λ n. CanReach cmp slots n root k) way.0 can)
  way_can (entry ∷ path) zero root h id way can = absurd way
  way_can ((n, j, c) ∷ path) (suc m) root h id (e, node, is, leads, read, below) can =
      way_can path m c h id below (child_can slots m n k node j c (subst (λ x. CanReach cmp slots (suc m) x k) e can) is leads read)

  -- the tree at the end of a path has no more pairs than the whole tree
  pub way_few : (path : List (InnerNodeId × ℕ × NodeId)) (top : ℕ) (root : NodeId) (h : ℕ) (id : NodeId) → Way cmp slots k top root path h id → length (pairs_at slots h id) ≤ length (pairs_at slots top root)
  way_few [] top root h id way = omega (arith, ap (λ n. length (pairs_at slots n root)) way.0, ap (λ x. length (pairs_at slots h x)) way.1)
  way_few (entry ∷ path) zero root h id way = absurd way
  way_few ((n, j, c) ∷ path) (suc m) root h id (e, node, is, leads, read, below) =
      omega (arith, way_few path m c h id below, in_flat (pairs_at slots m) node.children j c read, ap (λ x. length (pairs_at slots (suc m) x)) e, ap (λ (s : Slot (Inner K A)). length (flat (pairs_at slots m) (inner_children s))) is)

  -- the summaries of the tree at the end of a path are correct
  pub way_summed : (is_summary : A → List K → Type 0) (path : List (InnerNodeId × ℕ × NodeId)) (top : ℕ) (root : NodeId) (h : ℕ) (id : NodeId) → Way cmp slots k top root path h id → CanReach cmp slots top root k
      → IsSummed slots is_summary top root → IsSummed slots is_summary h id
  way_summed is_summary [] top root h id way can summed = subst (λ x. IsSummed slots is_summary h x) way.1 (subst (λ n. IsSummed slots is_summary n root) way.0 summed)
  way_summed is_summary (entry ∷ path) zero root h id way can summed = absurd way
  way_summed is_summary ((n, j, c) ∷ path) (suc m) root h id (e, node, is, leads, read, below) can summed =
      let can_node = subst (λ x. CanReach cmp slots (suc m) x k) e can in
      let here : IsSummed slots is_summary (suc m) (kind.Inner n) = subst (λ x. IsSummed slots is_summary (suc m) x) e summed in
      let each : AllByRecursion (IsSummed slots is_summary m) node.children = subst (λ (s : Slot (Inner K A)). AllByRecursion (IsSummed slots is_summary m) (inner_children s)) is here.1 in
      let at = AllByRecursion-at (IsSummed slots is_summary m) node.children j c (child_index slots m n k node j c can_node is leads) each in
      way_summed is_summary path m c h id below (child_can slots m n k node j c can_node is leads read) (subst (λ x. IsSummed slots is_summary m x) (get_or_from_slice_get node.children j c c read) at)

-- The size of a node on a path, and an id that is released.
use Rattle.std.proofs.Common.{◌≡◌, ℕ, zero, suc, ◌≤◌, List, [], ◌∷◌, length, refl, subst, Option, None}
use Rattle.std.specs.declared.cmp.Ordering.{Ordering}
use Rattle.std.proofs.lemmas.Option.{get_or_from_slice_get}
use Rattle.bptree_nodes.specs.Inner.{Inner}
use Rattle.bptree_nodes.specs.Leaf.{Leaf}
use Rattle.bptree_nodes.specs.Slot.{Slot, Slots, Present}
use Rattle.bptree_keys.specs.declared.node_id.InnerNodeId.{InnerNodeId}
use Rattle.bptree_keys.specs.declared.node_id.NodeId.{NodeId}
use Rattle.bptree_keys.specs.declared.node_id.NodeId.TheVariants as kind
use Rattle.bptree_propagation.specs.Climb.{least_at}
use Rattle.bptree_invariant.specs.Order.{Within, Chain}
use Rattle.bptree_invariant.specs.Path.{Way}
use Rattle.bptree_invariant.specs.Shape.{inner_keys, inner_children, root_least, IsTree, IsWellShaped}
use Rattle.bptree_invariant.proofs.Widen.{chain_leads}

abbrev pub least_from : {X : Type 0} → ℕ → List X → ℕ
least_from first [] = first
least_from first (x ∷ xs) = 16

module _ {K V A : Type 0} (cmp : K → K → Ordering) (slots : Slots (Inner K A) (Leaf K V)) (k : K) where
  -- a tree at the end of a path, with as many keys as it must have there
  pub record SubtreeAt (least h : ℕ) (id : NodeId) : Type 0 where
    pub low : Option K
    pub high : Option K
    pub tree : IsTree cmp slots least h id low high
    pub fits : Within cmp low high k

  below_sixteen : {X : Type 0} (path : List X) (h : ℕ) (id : NodeId) → SubtreeAt (least_from 16 path) h id → SubtreeAt 16 h id
  below_sixteen [] h id s = s
  below_sixteen (x ∷ xs) h id s = s

  pub seat_from : (path : List (InnerNodeId × ℕ × NodeId)) (first top : ℕ) (root : NodeId) (h : ℕ) (id : NodeId) → Way cmp slots k top root path h id → SubtreeAt first top root → SubtreeAt (least_from first path) h id
  seat_from [] first top root h id way s = subst (λ x. SubtreeAt first h x) way.1 (subst (λ n. SubtreeAt first n root) way.0 s)
  seat_from (entry ∷ path) first zero root h id way s = absurd way
  seat_from ((n, j, c) ∷ path) first (suc m) root h id (e, node, is, leads, read, below) s =
      let there : SubtreeAt first (suc m) (kind.Inner n) = subst (λ x. SubtreeAt first (suc m) x) e s in
      let chain = subst (λ (x : Slot (Inner K A)). Chain cmp (IsTree cmp slots 16 m) (inner_keys x) (inner_children x) there.low there.high) is there.tree.1 in
      let u = chain_leads cmp (IsTree cmp slots 16 m) k node.keys node.children there.low there.high j c chain leads there.fits in
      below_sixteen path h id (seat_from path 16 m c h id below (record { low = u.0; high = u.1; tree = subst (λ x. IsTree cmp slots 16 m x u.0 u.1) (get_or_from_slice_get node.children j c c read) u.2; fits = u.3 }))

  same_least : {X : Type 0} (top : ℕ) (path : List X) → least_from (root_least top) path ≡ least_at top path
  same_least top [] = refl
  same_least top (x ∷ xs) = refl

  pub seat_of : {is_summary : A → List K → Type 0} (path : List (InnerNodeId × ℕ × NodeId)) (top : ℕ) (root : NodeId) (h : ℕ) (id : NodeId) → Way cmp slots k top root path h id → IsWellShaped cmp is_summary slots top root → SubtreeAt (least_at top path) h id
  seat_of path top root h id way shape =
      subst (λ n. SubtreeAt n h id) (same_least top path) (seat_from path (root_least top) top root h id way (record { low = None; high = None; tree = shape.tree; fits = (tt, tt) }))

  pub seat_size : (least h : ℕ) (id : InnerNodeId) (node : Inner K A) → slots.inner id.0 ≡ Present node → SubtreeAt least (suc h) (kind.Inner id) → least ≤ length node.keys
  seat_size least h id node is s = subst (λ (x : Slot (Inner K A)). least ≤ length (inner_keys x)) is s.tree.2

  -- the height of an inner node is not 0
  pub inner_high : (least h : ℕ) (id : InnerNodeId) → SubtreeAt least h (kind.Inner id) → (m : ℕ) × (h ≡ suc m)
  inner_high least zero id s = absurd s.tree
  inner_high least (suc m) id s = (m, refl)

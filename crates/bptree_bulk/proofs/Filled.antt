-- What each leaf of a tree holds.
use Rattle.std.proofs.Common.{◌≡◌, ◌<◌, ◌≤◌, ℕ, zero, suc, sym, subst, Option, Some, None, List, [], ◌∷◌, length, arith, append-nil}
use Rattle.std.specs.declared.cmp.Ordering.{Ordering}
use Rattle.std.specs.List.{AllByRecursion}
use Rattle.bptree_keys.proofs.PieceLemmas.{AllByRecursion-append, AllByRecursion-weaker}
use Rattle.bptree_bulk_load.specs.Rooms.{pairs_under, IsFilledAt, IsPresentAt}
use Rattle.bptree_keys.specs.Contents.{IsAscending}
use Rattle.bptree_keys.specs.declared.node_id.LeafNodeId.{LeafNodeId}
use Rattle.bptree_keys.specs.declared.node_id.NodeId.{NodeId}
use Rattle.bptree_keys.specs.declared.node_id.NodeId.TheVariants as kind
use Rattle.bptree_nodes.specs.Inner.{Inner}
use Rattle.bptree_nodes.specs.Leaf.{Leaf}
use Rattle.bptree_nodes.specs.Slot.{Slots}
use Rattle.bptree_invariant.specs.Order.{flat, Chain}
use Rattle.bptree_invariant.specs.Shape.{inner_children, inner_keys, leaves_at, root_least, IsTree, IsWellShaped}

module _ {K V A : Type 0} (cmp : K → K → Ordering) (slots : Slots (Inner K A) (Leaf K V)) where
  -- a leaf below a root
  pub record IsFull (id : LeafNodeId) : Type 0 where
    pub present : IsPresentAt slots id
    pub enough : 16 ≤ length (pairs_under slots id)
    pub ascending : IsAscending cmp (pairs_under slots id)

  all_children : (P : LeafNodeId → Type 0) (h : ℕ) → ((c : NodeId) (lo hi : Option K) → IsTree cmp slots 16 h c lo hi → AllByRecursion P (leaves_at slots h c)) → (ks : List K) (cs : List NodeId) (lo hi : Option K) → Chain cmp (IsTree cmp slots 16 h) ks cs lo hi → AllByRecursion P (flat (leaves_at slots h) cs)
  all_children P h each ks [] lo hi c = absurd c
  all_children P h each [] (c ∷ []) lo hi t = rw append-nil (each c lo hi t)
  all_children P h each [] (c ∷ d ∷ cs) lo hi t = absurd t
  all_children P h each (k ∷ ks) (c ∷ cs) lo hi t = AllByRecursion-append P (leaves_at slots h c) (flat (leaves_at slots h) cs) (each c lo (Some k) t.0) (all_children P h each ks cs (Some k) hi t.2)

  full_below : (h : ℕ) (id : NodeId) (lo hi : Option K) → IsTree cmp slots 16 h id lo hi → AllByRecursion IsFull (leaves_at slots h id)
  full_below zero (kind.Leaf id) lo hi t = (record { present = t.0; enough = t.3; ascending = t.2 }, tt)
  full_below zero (kind.Inner id) lo hi t = tt
  full_below (suc h) (kind.Leaf id) lo hi t = tt
  full_below (suc h) (kind.Inner id) lo hi t = all_children IsFull h (full_below h) (inner_keys (slots.inner id.0)) (inner_children (slots.inner id.0)) lo hi t.1

  -- all leaves are full if there are several
  all_full : (h : ℕ) (root : NodeId) → IsTree cmp slots (root_least h) h root None None → 1 < length (leaves_at slots h root) → AllByRecursion IsFull (leaves_at slots h root)
  all_full zero (kind.Leaf id) t several = absurd (omega (arith, several))
  all_full zero (kind.Inner id) t several = tt
  all_full (suc h) (kind.Leaf id) t several = tt
  all_full (suc h) (kind.Inner id) t several = all_children IsFull h (full_below h) (inner_keys (slots.inner id.0)) (inner_children (slots.inner id.0)) None None t.1

  all_present : (h : ℕ) (root : NodeId) → IsTree cmp slots (root_least h) h root None None → AllByRecursion (IsPresentAt slots) (leaves_at slots h root)
  all_present zero (kind.Leaf id) t = (t.0, tt)
  all_present zero (kind.Inner id) t = tt
  all_present (suc h) (kind.Leaf id) t = tt
  all_present (suc h) (kind.Inner id) t = AllByRecursion-weaker IsFull (IsPresentAt slots) (λ (l : LeafNodeId) (full : IsFull l). full.present) (leaves_at slots (suc h) (kind.Inner id)) (all_children IsFull h (full_below h) (inner_keys (slots.inner id.0)) (inner_children (slots.inner id.0)) None None t.1)

  module _ (is_summary : A → List K → Type 0) (h : ℕ) (root : NodeId) (shape : IsWellShaped cmp is_summary slots h root) (ids : List LeafNodeId) (are : ids ≡ leaves_at slots h root) where
    pub present_leaves : AllByRecursion (IsPresentAt slots) ids
    present_leaves = subst (AllByRecursion (IsPresentAt slots)) (sym are) (all_present h root shape.tree)

    pub full_leaves : 1 < length ids → AllByRecursion IsFull ids
    full_leaves several = subst (AllByRecursion IsFull) (sym are) (all_full h root shape.tree (subst (λ l. 1 < length l) are several))

    pub least_leaves : 1 < length ids → AllByRecursion (λ (id : LeafNodeId). 16 ≤ length (pairs_under slots id)) ids
    least_leaves several = AllByRecursion-weaker IsFull (λ (id : LeafNodeId). 16 ≤ length (pairs_under slots id)) (λ (id : LeafNodeId) (full : IsFull id). full.enough) ids (full_leaves several)

    pub filled_leaves : 1 < length ids → AllByRecursion (IsFilledAt cmp slots) ids
    filled_leaves several = AllByRecursion-weaker IsFull (IsFilledAt cmp slots) (λ (id : LeafNodeId) (full : IsFull id). (full.present, omega (arith, full.enough), full.ascending)) ids (full_leaves several)

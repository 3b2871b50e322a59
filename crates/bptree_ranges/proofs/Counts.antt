-- The number of pairs between two ends, from the numbers of keys that are smaller than each.
use Rattle.std.proofs.Common.{◌≡◌, ℕ, ◌-◌, ◌≤◌, List, length, filter, drop, sym, ap, ◌∙◌, arith, Option, length-drop}
use Rattle.std.specs.declared.cmp.Ordering.{Ordering}
use Rattle.std.specs.Cmp.{IsTotalOrder}
use Rattle.std.proofs.lemmas.List.{length-take-le}
use Rattle.bptree_keys.specs.Contents.{IsAscending, pairs_below}
use Rattle.bptree_keys.specs.Ranges.{between, falls_short, stays_below}
use Rattle.bptree_keys.specs.declared.node_id.LeafNodeId.{LeafNodeId}
use Rattle.bptree_keys.specs.declared.node_id.NodeId.{NodeId}
use Rattle.bptree_keys.specs.declared.node_id.NodeId.TheVariants as kind
use Rattle.bptree_nodes.specs.Inner.{Inner}
use Rattle.bptree_nodes.specs.Leaf.{Leaf}
use Rattle.bptree_nodes.specs.Slot.{Slots, Present}
use Rattle.bptree_ranges.proofs.Sums.{filter_few}
use Rattle.bptree_invariant.specs.Shape.{pairs_at}
use Rattle.bptree_invariant.proofs.Walk.{tree_ascends}
use Rattle.bptree_search.specs.ByArgument.{IsSubtree}
use Rattle.bptree_search.proofs.Summed.{leaf_whole, leaf_sorted}
use Rattle.bptree_invariant.proofs.Between.{between_is}

module _ {K V A : Type 0} {cmp : K → K → Ordering} (total : IsTotalOrder cmp) (is_summary : A → List K → Type 0) (slots : Slots (Inner K A) (Leaf K V)) (h : ℕ) where
  -- the number of a tree's pairs between two ends is the difference of those before each
  pub between_len : (id : NodeId) → IsSubtree cmp is_summary slots h id → (lo hi : Option K) (i j : ℕ)
      → i ≡ length (filter (λ (p : K × V). falls_short cmp lo p.0) (pairs_at slots h id))
      → j ≡ length (filter (λ (p : K × V). stays_below cmp hi p.0) (pairs_at slots h id))
      → j - i ≡ length (between cmp (pairs_at slots h id) lo hi)
  between_len id s lo hi i j short below =
      let l = pairs_at slots h id in
      let ascending : IsAscending cmp l = tree_ascends total slots s.stored.least h id s.stored.low s.stored.high s.stored.tree in
      let fewer : j - i ≤ length (drop i l) = omega (arith, length-drop i l, below, filter_few (λ (p : K × V). stays_below cmp hi p.0) l) in
      sym (ap length (between_is total l lo hi i j ascending short below) ∙ length-take-le (j - i) (drop i l) fewer)

  -- if the tree is a leaf, the number of smaller keys in the leaf is that in the tree
  pub leaf_counted : (top : NodeId) (id : LeafNodeId) (node : Leaf K V) → IsSubtree cmp is_summary slots h top → top ≡ kind.Leaf id → slots.leaf id.0 ≡ Present node → (k : K) (n : ℕ)
      → (IsAscending cmp node.pairs → n ≡ length (pairs_below cmp node.pairs k)) → n ≡ length (pairs_below cmp (pairs_at slots h top) k)
  leaf_counted top id node s is e k n clause =
      let s' : IsSubtree cmp is_summary slots h (kind.Leaf id) = rw is at s in
      rw (is, leaf_whole total is_summary slots h id node s' e) (clause (leaf_sorted total is_summary slots h id node s' e))

-- What a leaf determines of the whole tree.
use Rattle.std.proofs.Common.{◌≡◌, ℕ, List, [], ◌∷◌, ◌++◌, refl, sym, ap, subst, ◌∙◌}
use Rattle.std.specs.declared.cmp.Ordering.{Ordering}
use Rattle.std.specs.declared.cmp.Ordering.TheVariants.{Less}
use Rattle.std.specs.Cmp.{IsTotalOrder}
use Rattle.std.specs.List.Sorted.{IsStrictlySortedBy}
use Rattle.std.specs.Map.{keys_of}
use Rattle.std.proofs.lemmas.Map.Keys.{sorted_head, sorted_tail}
use Rattle.bptree_keys.specs.Contents.{IsAscending, value}
use Rattle.bptree_nodes.specs.Inner.{Inner}
use Rattle.bptree_nodes.specs.Leaf.{Leaf}
use Rattle.bptree_nodes.specs.Slot.{Slots, Present}
use Rattle.bptree_keys.specs.declared.node_id.LeafNodeId.{LeafNodeId}
use Rattle.bptree_keys.specs.declared.node_id.NodeId.{NodeId}
use Rattle.bptree_keys.proofs.Around.{value_around}
use Rattle.bptree_keys.proofs.Ascending.{all_before, ascending_cons}
use Rattle.bptree_invariant.specs.Leaves.{pairs_of, IsLeafOf, IsLeafFor}
use Rattle.bptree_invariant.specs.Shape.{leaf_pairs, pairs_at}
use Rattle.bptree_invariant.proofs.Down.{pairs_of_leaves}
use Rattle.bptree_invariant.proofs.Ordered.{ascending_after}
use Rattle.bptree_invariant.proofs.Walk.{flat-append}

pub ascending_before : {K V : Type 0} (cmp : K → K → Ordering) (before after : List (K × V)) → IsAscending cmp (before ++ after) → IsAscending cmp before
unfolding IsStrictlySortedBy
ascending_before cmp [] after ascending = tt
ascending_before cmp (p ∷ before) after ascending =
    ascending_cons cmp p.0 (keys_of before) (all_before (λ key. cmp p.0 key ≡ Less) before after (sorted_head cmp p.0 (keys_of (before ++ after)) ascending))
    (ascending_before cmp before after (sorted_tail cmp p.0 (keys_of (before ++ after)) ascending))

module _ {K V A : Type 0} (slots : Slots (Inner K A) (Leaf K V)) (h : ℕ) (root : NodeId) (leaf : LeafNodeId) (in' : IsLeafOf slots h root leaf) where
  -- the contents are the pairs before the leaf, its own pairs, and the pairs after it
  pub parts_of : pairs_at slots h root ≡ pairs_of slots in'.before ++ (leaf_pairs (slots.leaf leaf.0) ++ pairs_of slots in'.after)
  parts_of =
      sym (pairs_of_leaves slots h root) ∙ ap (pairs_of slots) in'.leaves
      ∙ flat-append (λ (l : LeafNodeId). leaf_pairs (slots.leaf l.0)) in'.before (leaf ∷ in'.after)

  pub parts_of_read : (node : Leaf K V) → slots.leaf leaf.0 ≡ Present node → pairs_at slots h root ≡ pairs_of slots in'.before ++ (node.pairs ++ pairs_of slots in'.after)
  parts_of_read node e = parts_of ∙ rw e refl

module _ {K V A : Type 0} {cmp : K → K → Ordering} (total' : IsTotalOrder cmp) (slots : Slots (Inner K A) (Leaf K V)) (h : ℕ) (root : NodeId) where
  -- a look-up in the leaf for a key returns what a look-up in the tree returns
  pub value_in_leaf : (k : K) (leaf : LeafNodeId) (node : Leaf K V) → IsLeafFor cmp slots h root k leaf → slots.leaf leaf.0 ≡ Present node → value cmp (pairs_at slots h root) k ≡ value cmp node.pairs k
  value_in_leaf k leaf node for' e =
      rw (parts_of_read slots h root leaf for'.stored node e) (value_around cmp k (pairs_of slots for'.stored.before) node.pairs (pairs_of slots for'.stored.after) for'.smaller for'.greater)

  -- the pairs of a leaf ascend
  pub leaf_ascends : (leaf : LeafNodeId) (node : Leaf K V) → IsLeafOf slots h root leaf → IsAscending cmp (pairs_at slots h root) → slots.leaf leaf.0 ≡ Present node → IsAscending cmp node.pairs
  leaf_ascends leaf node in' ascending e =
      ascending_before cmp node.pairs (pairs_of slots in'.after)
      (ascending_after total' (pairs_of slots in'.before) (node.pairs ++ pairs_of slots in'.after) (subst (IsAscending cmp) (parts_of_read slots h root leaf in' node e) ascending))

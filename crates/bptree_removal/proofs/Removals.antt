-- A pair is removed from a leaf, and is stored there again.
use Rattle.std.proofs.Common.{◌≡◌, ℕ, ◌<◌, length, arith, true, is_some, zero, suc, List, [], ◌∷◌, inl, inr, refl, sym, ap, ◌∙◌, Some, slice_get}
use Rattle.std.specs.Map.{values_of}
use Rattle.std.specs.List.{insert, remove}
use Rattle.std.proofs.lemmas.Bool.{cases_eq}
use Rattle.std.specs.declared.cmp.Ordering.{Ordering}
use Rattle.std.specs.Cmp.{IsTotalOrder}
use Rattle.bptree_keys.specs.Contents.{has}
use Rattle.bptree_keys.specs.declared.node_id.NodeId.{NodeId}
use Rattle.bptree_keys.proofs.Equal.{has_where_value}
use Rattle.bptree_nodes.proofs.LeafContents.{value_at_index}
use Rattle.bptree_nodes.specs.LeafResults.{HasEqualAt}
use Rattle.bptree_invariant.specs.Leaves.{IsLeafFor}
use Rattle.bptree_invariant.specs.Shape.{pairs_at, IsWellShaped}
use Rattle.bptree_invariant.proofs.LeafFor.{node_ascends, value_there}
use Rattle.bptree_nodes.specs.Inner.{Inner}
use Rattle.bptree_nodes.specs.Leaf.{Leaf}
use Rattle.bptree_nodes.specs.Slot.{Slot, Slots, Present, UpdatesLeaf}
use Rattle.bptree_keys.specs.declared.node_id.LeafNodeId.{LeafNodeId}
use Rattle.bptree_rebalancing.proofs.Transfers.{insert_removed}
use Rattle.bptree_rebalancing.proofs.Triples.{slots_same}
use Rattle.bptree_propagation.proofs.Undone.{same_node}

pub leaf_again : {K V A : Type 0} (was now new : Slots (Inner K A) (Leaf K V)) (id : LeafNodeId) (slot : ℕ) (node from back : Leaf K V) (pair : K × V) → was.leaf id.0 ≡ Present node → slice_get node.pairs slot ≡ Some pair
    → UpdatesLeaf was now id.0 (Present (record node { pairs = remove node.pairs slot })) → now.leaf id.0 ≡ Present from → back ≡ record from { pairs = insert from.pairs slot pair } → UpdatesLeaf now new id.0 (Present back) → new ≡ was
leaf_again {K} {V} {A} was now new id slot node from back pair here read takes there is put =
    slots_same new was
    (λ n. ap (λ (f : ℕ → Slot (Inner K A)). f n) (put.inner ∙ takes.inner))
    (λ n. elim (cases_eq n id.0) [ inl e ↦ (rw e (put.leaf.changed ∙ (ap Present undone ∙ sym here))) | inr far ↦ put.leaf.others n far ∙ takes.leaf.others n far ])
  where
    from_is : from ≡ record node { pairs = remove node.pairs slot }
    from_is = same_node (now.leaf id.0) from (record node { pairs = remove node.pairs slot }) there takes.leaf.changed

    undone : back ≡ node
    undone = is ∙ rw from_is (ap (λ ps. record node { pairs = ps }) (insert_removed node.pairs slot pair read))

read_value : {K V : Type 0} (xs : List (K × V)) (i : ℕ) → i < length xs → (v : V) × (slice_get (values_of xs) i ≡ Some v)
read_value [] i below = absurd (omega arith)
read_value (x ∷ xs) zero below = (x.1, refl)
read_value (x ∷ xs) (suc i) below = read_value xs i (omega arith)

-- a key that is found in its leaf is in the tree
pub found_there : {K V A : Type 0} {cmp : K → K → Ordering} (total : IsTotalOrder cmp) (is_summary : A → List K → Type 0) (old : Slots (Inner K A) (Leaf K V)) (h : ℕ) (root : NodeId) (k : K) (leaf : LeafNodeId) (node : Leaf K V)
    → IsWellShaped cmp is_summary old h root → IsLeafFor cmp old h root k leaf → old.leaf leaf.0 ≡ Present node → (i : ℕ) → HasEqualAt cmp node.pairs k i → i < length node.pairs → has cmp (pairs_at old h root) k ≡ true
found_there {cmp = cmp} total is_summary old h root k leaf node shape for' here i found below =
    let v = read_value node.pairs i below in
    sym (has_where_value cmp (pairs_at old h root) k)
    ∙ ap is_some (value_there total is_summary old h root k leaf node shape for' here ∙ (sym (value_at_index cmp total node.pairs (node_ascends total is_summary old h root k leaf node shape for' here) k i found) ∙ v.1))

-- A pair is removed from a leaf.
use Rattle.std.proofs.Common.{◌≡◌, ℕ, ◌≤◌, List, length, subst, arith}
use Rattle.std.specs.declared.cmp.Ordering.{Ordering}
use Rattle.std.specs.Cmp.{IsTotalOrder}
use Rattle.std.specs.List.{AllByRecursion}
use Rattle.bptree_keys.specs.Contents.{IsAscending, del}
use Rattle.bptree_keys.proofs.Around.{del_around}
use Rattle.bptree_keys.proofs.Updates.{del_ascending}
use Rattle.bptree_nodes.specs.Inner.{Inner}
use Rattle.bptree_nodes.specs.Leaf.{Leaf}
use Rattle.bptree_nodes.specs.Slot.{Slot, Slots, Present, UpdatesLeaf}
use Rattle.bptree_keys.specs.declared.node_id.LeafNodeId.{LeafNodeId}
use Rattle.bptree_keys.specs.declared.node_id.NodeId.TheVariants as kind
use Rattle.bptree_invariant.specs.Edit.{IsLocal, Stays, Edits}
use Rattle.bptree_invariant.specs.Order.{Within}
use Rattle.bptree_invariant.specs.Outcome.{Done}
use Rattle.bptree_invariant.specs.Shape.{leaf_pairs}
use Rattle.bptree_keys.proofs.KeptKeys.{all_kept}
use Rattle.bptree_propagation.proofs.LeafEdit.{leaf_changed}

-- removing a pair is a local edit: it leaves the pairs of smaller and of greater keys as they are
pub del_is_local : {K V : Type 0} (cmp : K → K → Ordering) (k : K) → IsLocal {V = V} cmp k (λ l. del cmp l k)
del_is_local cmp k = record { around = λ before l after smaller greater. del_around cmp k before l after smaller greater }

module _ {K V A : Type 0} {cmp : K → K → Ordering} (total : IsTotalOrder cmp) (is_summary : A → List K → Type 0) (old new : Slots (Inner K A) (Leaf K V)) (leaf : LeafNodeId) (k : K) (node : Leaf K V) (here : old.leaf leaf.0 ≡ Present node)
    (kept : ℕ) (left : kept ≤ length (del cmp node.pairs k)) (most : length (del cmp node.pairs k) ≤ 64) (updates : UpdatesLeaf old new leaf.0 (Present (record node { pairs = del cmp node.pairs k }))) where
  pub leaf_removed : Edits cmp is_summary (λ l. del cmp l k) kept old new 0 (kind.Leaf leaf) k leaf Stays Done
  leaf_removed =
      leaf_changed cmp is_summary (λ l. del cmp l k) kept old new leaf k node here updates (λ least lo hi low tree fits. (
        all_kept (Within cmp lo hi) _ node.pairs (subst (λ (x : Slot (Leaf K V)). AllByRecursion (λ p. Within cmp lo hi p.0) (leaf_pairs x)) here tree.1),
        del_ascending cmp node.pairs k (subst (λ (x : Slot (Leaf K V)). IsAscending cmp (leaf_pairs x)) here tree.2),
        omega (arith, left, low),
        most,
      ))

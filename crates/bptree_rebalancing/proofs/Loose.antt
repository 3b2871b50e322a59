-- A well-shaped tree is also one whose root may have no key.
use Rattle.std.proofs.Common.{ℕ, List, arith}
use Rattle.std.specs.declared.cmp.Ordering.{Ordering}
use Rattle.bptree_nodes.specs.Inner.{Inner}
use Rattle.bptree_nodes.specs.Leaf.{Leaf}
use Rattle.bptree_nodes.specs.Slot.{Slots}
use Rattle.bptree_keys.specs.declared.node_id.NodeId.{NodeId}
use Rattle.bptree_invariant.specs.Shape.{root_least, IsWellShaped}
use Rattle.bptree_rebalancing.specs.Trim.{IsLoose}
use Rattle.bptree_invariant.proofs.Widen.{tree_less}

pub loose_of : {K V A : Type 0} (cmp : K → K → Ordering) (is_summary : A → List K → Type 0) (slots : Slots (Inner K A) (Leaf K V)) (h : ℕ) (root : NodeId) → IsWellShaped cmp is_summary slots h root → IsLoose cmp is_summary slots h root
loose_of cmp is_summary slots h root w = record {
  nodes = record {
    tree = tree_less cmp slots (root_least h) 0 h root _ _ (omega arith) w.tree;
    leaves = w.leaves;
    inners = w.inners;
    none_held = record { inners = w.no_inner_held; leaves = w.no_leaf_held };
    summed = w.summed;
  };
  linked = w.linked;
}

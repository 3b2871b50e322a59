-- Everything that is prepared before two trees become one.
use Rattle.std.specs.Prelude.{◌≡◌, ◌+◌, List, ◌++◌, length, map}
use Rattle.std.specs.declared.cmp.Ordering.{Ordering}
use Rattle.bptree_bulk_load.specs.Plans.{Frames}
use Rattle.bptree_bulk_load.specs.Rooms.{pairs_under}
use Rattle.bptree_bulk.specs.Split.{HasLeavesFor}
use Rattle.bptree_bulk.specs.declared.joining.JoinPlan.{JoinPlan}
use Rattle.bptree_keys.specs.declared.node_id.LeafNodeId.{LeafNodeId}
use Rattle.bptree_nodes.specs.Inner.{Inner}
use Rattle.bptree_nodes.specs.Leaf.{Leaf}
use Rattle.bptree_nodes.specs.Slot.{Slots}
use Rattle.bptree_invariant.specs.NodeTree.{NodeTree}
use Rattle.bptree_invariant.specs.Shape.{leaves_at}

-- the pairs of each leaf of one store, and then of another
abbrev pub parts_of_both : {K V A : Type 0} → Slots (Inner K A) (Leaf K V) → List LeafNodeId → Slots (Inner K A) (Leaf K V) → List LeafNodeId → List (List (K × V))
parts_of_both one ids other others = map (pairs_under one) ids ++ map (pairs_under other) others

-- everything is ready to put the leaves of the second tree behind those of the first
pub record IsJoinPlan {S K V A : Type 0} (cmp : K → K → Ordering) (is_summary : A → List K → Type 0) (slots : S → Slots (Inner K A) (Leaf K V)) (one other : NodeTree S K V A) (joint : JoinPlan S K V A) : Type 0 where
  pub first : joint.first.items ≡ leaves_at (slots one.store) one.height one.root
  pub second : joint.second.items ≡ leaves_at (slots other.store) other.height other.root
  pub framed : Frames cmp is_summary slots joint.frame (parts_of_both (slots one.store) joint.first.items (slots other.store) joint.second.items)
  pub room : HasLeavesFor (length joint.first.items + length joint.second.items) joint.leaves

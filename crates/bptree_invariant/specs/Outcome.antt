-- The outcome of an edit for the top node of a tree.
use Rattle.bptree_keys.specs.declared.node_id.NodeId.{NodeId}

-- the node is still one node, or it was split: a separator and a new node are to its right
pub data Outcome (K : Type 0) : Type 0 where
  Done : Outcome K
  Split : K → NodeId → Outcome K

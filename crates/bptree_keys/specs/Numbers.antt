-- Node ids: the id of either kind that one contains, and their order.
use Rattle.std.specs.Prelude.{Option, Some, None}
use Rattle.std.specs.declared.cmp.Ordering.{Ordering}
use Rattle.std.specs.declared.cmp.Ordering.TheVariants.{Less, Greater}
use Rattle.std.specs.Ordering.{nat_cmp}
use Rattle.bptree_keys.specs.declared.node_id.InnerNodeId.{InnerNodeId}
use Rattle.bptree_keys.specs.declared.node_id.LeafNodeId.{LeafNodeId}
use Rattle.bptree_keys.specs.declared.node_id.NodeId.{NodeId}
use Rattle.bptree_keys.specs.declared.node_id.NodeId.TheVariants.{Inner, Leaf}

-- the id of the leaf, if the node is a leaf, and the id of the inner node, if the node is an inner node
abbrev pub leaf_number : NodeId → Option LeafNodeId
leaf_number (Inner id) = None
leaf_number (Leaf id) = Some id

abbrev pub inner_number : NodeId → Option InnerNodeId
inner_number (Inner id) = Some id
inner_number (Leaf id) = None

-- two ids of one kind are ordered as their `usize`s, and every inner node is before every leaf
abbrev pub node_order : NodeId → NodeId → Ordering
node_order (Inner a) (Inner b) = nat_cmp a.0 b.0
node_order (Inner a) (Leaf b) = Less
node_order (Leaf a) (Inner b) = Greater
node_order (Leaf a) (Leaf b) = nat_cmp a.0 b.0

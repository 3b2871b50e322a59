use Rattle.std.proofs.Common.{◌≡◌, ◌-◌, ◌++◌, List, length}
use Rattle.bptree_keys.specs.declared.node_id.LeafNodeId.{LeafNodeId}
use Rattle.bptree_bulk_load.specs.Rooms.{first_id}
use Rattle.bptree_invariant.specs.Shape.{leaves_at}
use Rattle.bptree_bulk_load.proofs.leaves.leaf_ids.Given as goal

abbrev pub invariant-leaves : goal.invariant-leaves
invariant-leaves g l = record {
  rest : List LeafNodeId;
  are : leaves_at (g.S.NodeStore.slots l.fn.tree.store) l.fn.tree.height l.fn.tree.root ≡ l.ids.items ++ rest;
  at_is : l.at ≡ first_id rest;
}

abbrev pub decreases-leaves : goal.decreases-leaves
decreases-leaves g l = length (leaves_at (g.S.NodeStore.slots l.fn.tree.store) l.fn.tree.height l.fn.tree.root) - length l.ids.items

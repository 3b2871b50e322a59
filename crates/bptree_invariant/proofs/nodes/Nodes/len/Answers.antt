use Rattle.std.proofs.Common.{None}
use Rattle.bptree_invariant.specs.Shape.{root_least}
use Rattle.bptree_invariant.proofs.Walk.{tree_ascends}
use Rattle.bptree_invariant.proofs.nodes.Nodes.len.Goals as goal

-- the pairs of a well-shaped tree ascend
pub returns-clause-ascending : goal.returns-clause-ascending
returns-clause-ascending g c =
    let tree = c.self.inside in
    rw (← c.self.view_is) (tree_ascends g.met.S.K.Ord.total (g.S.NodeStore.slots tree.store) (root_least tree.height) tree.height tree.root None None c.self.invariant.0.tree)

use Rattle.std.proofs.Common.{◌∙◌}
use Rattle.bptree_invariant.proofs.Ends.{first_pair, shown}
use Rattle.bptree_invariant.proofs.nodes.Nodes.first.Goals as goal

pub returns : goal.returns
returns g c =
    let tree = c.self.inside in
    rw (← c.self.view_is)
    (shown c.get_leaf.result.now.pairs 0 c.try_data_at.result c.try_data_at.ensures.value c.try_data_at.ensures.variant
    ∙ first_pair g.S.K.Ord.cmp (g.S.NodeStore.slots tree.store) tree.height tree.root c.self.invariant.0.tree c.first_leaf-leaf.result c.get_leaf.result.now c.get_leaf.ensures (rw (← c.self.view_is) at c.first_leaf-leaf.ensures))

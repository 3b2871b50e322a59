use Rattle.std.proofs.Common.{◌∙◌}
use Rattle.bptree_invariant.proofs.Ends.{first_pair}
use Rattle.bptree_search.proofs.neighbours.first_pair.Goals as goal

pub returns : goal.returns
returns g c =
    let tree = c.tree.inside in
    rw (← c.tree.view_is)
    (c.read_at.ensures
    ∙ first_pair g.S.K.Ord.cmp (g.S.NodeStore.slots tree.store) tree.height tree.root c.tree.invariant.0.tree c.first_leaf-id.result c.get_leaf.result.now c.get_leaf.ensures (rw (← c.tree.view_is) at c.first_leaf-id.ensures))

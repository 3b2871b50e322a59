use Rattle.bptree_invariant.proofs.Low.{low_tree}
use Rattle.bptree_tree.proofs.Heights.{high_long}
use Rattle.bptree_tree.proofs.tree.BPlusTree.height.Goals as goal

pub returns-clause-levels : goal.returns-clause-levels
returns-clause-levels g c =
    let tree = c.nodes.inside in
    low_tree g.S.K.Ord.cmp g.S.Argument.Argument.is_summary (g.S.NodeStore.slots tree.store) tree.height tree.root c.nodes.invariant.0 (rw (← c.nodes.view_is) at c.recall.ensures.fits)

pub returns-clause-enough : goal.returns-clause-enough
returns-clause-enough g c =
    let tree = c.nodes.inside in
    rw (← c.self.view_is, ← c.nodes.view_is) (high_long g.S.K.Ord.cmp g.S.Argument.Argument.is_summary (g.S.NodeStore.slots tree.store) tree.height tree.root c.nodes.invariant.0)

use Rattle.std.proofs.Common.{◌∙◌}
use Rattle.bptree_tree.proofs.ChainLemmas.{tree_left}
use Rattle.bptree_tree.proofs.chain.Chain.of.Goals as goal

-- the leaves from the first to the last are all that are left
pub new-requires : goal.new-requires
new-requires g c =
    let tree = c.nodes.inside in
    let left = tree_left g.S.K.Ord.cmp g.S.Argument.Argument.is_summary (g.S.NodeStore.slots tree.store) tree.height tree.root c.first_leaf-first.result c.last_leaf-last.result tree.len c.nodes.invariant.0 (rw (← c.nodes.view_is) at c.first_leaf-first.ensures) (rw (← c.nodes.view_is) at c.last_leaf-last.ensures) c.nodes.invariant.1 in
    left.0

pub returns-clause-all : goal.returns-clause-all
returns-clause-all g c =
    let tree = c.nodes.inside in
    let left = tree_left g.S.K.Ord.cmp g.S.Argument.Argument.is_summary (g.S.NodeStore.slots tree.store) tree.height tree.root c.first_leaf-first.result c.last_leaf-last.result tree.len c.nodes.invariant.0 (rw (← c.nodes.view_is) at c.first_leaf-first.ensures) (rw (← c.nodes.view_is) at c.last_leaf-last.ensures) c.nodes.invariant.1 in
    rw (← c.nodes.view_is) (c.new.ensures ∙ left.1)

use Rattle.bptree_search.proofs.Summed.{pair_selected}
use Rattle.bptree_tree.proofs.tree.BPlusTree.index_by_argument.Goals as goal

pub returns-in-Some-clause-selected : goal.returns-in-Some-clause-selected
returns-in-Some-clause-selected g c =
    let nodes = c.nodes.inside in
    rw (← c.self.view_is, ← c.nodes.view_is)
    (pair_selected g.met.S.K.Ord.total g.S.Argument.Argument.is_summary (g.S.NodeStore.slots nodes.store) g.S.Argument.SearchArgument.selects c.args.query nodes.height nodes.root c.in-Some.at.leaf c.in-Some.at.slot c.get_leaf.result.now _ _ c.get_leaf.ensures c.data_at.ensures.value (rw c.in-Some.is at (rw (← c.nodes.view_is) at c.in_ok-find_by_argument.ensures.selected)))

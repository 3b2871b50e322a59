use Rattle.bptree_ranges.proofs.Ranged.{first_index}
use Rattle.bptree_ranges.proofs.ranges.start_of_all.Goals as goal

pub returns-clause-start : goal.returns-clause-start
returns-clause-start g c =
    let tree = c.args.tree.now in
    (first_index g.S.Argument.Argument.is_summary (g.S.NodeStore.slots tree.store) tree.height tree.root c.recall.ensures.whole.shape c.first_leaf.result c.first_leaf.ensures).1

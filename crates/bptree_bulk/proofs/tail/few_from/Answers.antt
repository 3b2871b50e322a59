use Rattle.std.proofs.Common.{ap, arith, length}
use Rattle.bptree_ranges.proofs.Ranged.{reached}
use Rattle.bptree_bulk.proofs.tail.few_from.Goals as goal

pub overflow_sub-result : goal.overflow_sub-result
overflow_sub-result g c =
    let tree = c.args.tree.now in
    let ends = reached g.S.Argument.Argument.is_summary (g.S.NodeStore.slots tree.store) tree.height tree.root c.recall.ensures.whole.shape c.args.at.leaf c.requires.on.stored in
    omega (arith, c.advance-short.ensures.end (omega (arith, c.if-short-eq0.false)), c.advance-short.ensures.sum, ends, c.requires.on.within, ap length c.recall.ensures.whole.contents)

pub returns-clause-count : goal.returns-clause-count
returns-clause-count g c =
    let tree = c.args.tree.now in
    let ends = reached g.S.Argument.Argument.is_summary (g.S.NodeStore.slots tree.store) tree.height tree.root c.recall.ensures.whole.shape c.args.at.leaf c.requires.on.stored in
    omega (arith, c.advance-short.ensures.end (omega (arith, c.if-short-eq0.false)), c.advance-short.ensures.sum, ends, c.requires.on.within, ap length c.recall.ensures.whole.contents)

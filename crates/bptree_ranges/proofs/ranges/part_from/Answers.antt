use Rattle.std.proofs.Common.{arith, subst}
use Rattle.bptree_ranges.specs.Ranges.{index_on, IsPart}
use Rattle.bptree_invariant.specs.Shape.{pairs_at}
use Rattle.bptree_ranges.proofs.Ranged.{part_upto_end, reached}
use Rattle.bptree_ranges.proofs.ranges.part_from.Goals as goal

pub part_of_indexes-requires-clause-rises : goal.part_of_indexes-requires-clause-rises
part_of_indexes-requires-clause-rises g c =
    let slots = g.S.NodeStore.slots c.args.tree.now.store in
    omega (arith, c.end_of_all-back.ensures.end, c.requires.within, reached g.S.Argument.Argument.is_summary slots c.args.tree.now.height c.args.tree.now.root c.recall.ensures.whole.shape c.args.front.leaf c.requires.stored)

pub returns : goal.returns
returns g c =
    let slots = g.S.NodeStore.slots c.args.tree.now.store in
    let pairs = pairs_at slots c.args.tree.now.height c.args.tree.now.root in
    let i = index_on slots c.args.tree.now.height c.args.tree.now.root c.args.front in
    subst (IsPart slots c.args.tree.now.height c.args.tree.now.root c.part_of_indexes.result) (part_upto_end pairs i c.args.n (index_on slots c.args.tree.now.height c.args.tree.now.root c.end_of_all-back.result) c.end_of_all-back.ensures.end) c.part_of_indexes.ensures

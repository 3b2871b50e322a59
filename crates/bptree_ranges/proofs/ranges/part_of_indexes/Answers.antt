use Rattle.bptree_ranges.proofs.Ranged.{part_between_settled}
use Rattle.bptree_ranges.proofs.ranges.part_of_indexes.Goals as goal

pub returns : goal.returns
returns g c =
    part_between_settled g.S.Argument.Argument.is_summary (g.S.NodeStore.slots c.args.tree.now.store) c.args.tree.now.height c.args.tree.now.root c.recall.ensures.whole.shape c.args.front c.args.back c.settled-front.result c.settled-back.result c.args.limit c.args.extent
    c.settled-front.ensures c.settled-back.ensures c.requires.rises c.requires.reports

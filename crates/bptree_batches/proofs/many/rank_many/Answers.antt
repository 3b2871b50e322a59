use Rattle.std.proofs.Common.{ap, length}
use Rattle.bptree_arguments.specs.CountLaws.{CountsKeys}
use Rattle.bptree_search.proofs.Summed.{whole_subtree}
use Rattle.bptree_batches.proofs.many.rank_many.Goals as goal

pub rank_groups-requires-clause-subtree : goal.rank_groups-requires-clause-subtree
rank_groups-requires-clause-subtree g c =
    let whole = c.recall.ensures.whole in
    rw (← c.tree.view_is) at (whole_subtree g.met.K.Ord.total CountsKeys _ c.args.tree.now.height c.args.tree.now.root (length c.args.tree.now.contents) whole.shape (ap length whole.contents) c.recall.ensures.fits)

pub returns-clause-ranks : goal.returns-clause-ranks
returns-clause-ranks g c = rw (← c.tree.view_is) c.rank_groups.ensures

use Rattle.std.proofs.Common.{ap, length}
use Rattle.bptree_arguments.specs.CountLaws.{CountsKeys}
use Rattle.bptree_search.proofs.Summed.{whole_subtree}
use Rattle.bptree_batches.proofs.many.get_index_many.Goals as goal

pub select_groups-requires-clause-subtree : goal.select_groups-requires-clause-subtree
select_groups-requires-clause-subtree g c =
    let whole = c.recall.ensures.whole in
    rw (← c.tree.view_is) at (whole_subtree g.met.K.Ord.total CountsKeys _ c.args.tree.now.height c.args.tree.now.root (length c.args.tree.now.contents) whole.shape (ap length whole.contents) c.recall.ensures.fits)

pub returns : goal.returns
returns g c = rw (← c.tree.view_is) c.select_groups.ensures

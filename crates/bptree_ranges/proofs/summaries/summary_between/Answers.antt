use Rattle.bptree_search.proofs.Summed.{known_subtree}
use Rattle.bptree_ranges.proofs.summaries.summary_between.Goals as goal

pub some_between-requires : goal.some_between-requires
some_between-requires g c =
    rw (← c.tree.view_is) at (known_subtree g.S.NodeStore.slots c.recall.ensures.whole c.recall.ensures.fits)

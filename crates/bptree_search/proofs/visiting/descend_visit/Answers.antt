use Rattle.bptree_search.proofs.Summed.{known_subtree}
use Rattle.bptree_search.proofs.visiting.descend_visit.Goals as goal

pub visit_below-requires : goal.visit_below-requires
visit_below-requires g c =
    rw (← c.tree.view_is) at (known_subtree g.S.NodeStore.slots c.recall.ensures.whole c.recall.ensures.fits)

pub returns : goal.returns
returns g c = rw (← c.tree.view_is) c.visit_below.ensures

use Rattle.bptree_search.proofs.Summed.{known_subtree}
use Rattle.bptree_search.proofs.by_argument.find_by_argument.Goals as goal

pub find_below-requires : goal.find_below-requires
find_below-requires g c =
    rw (← c.tree.view_is) at (known_subtree g.S.NodeStore.slots c.recall.ensures.whole c.recall.ensures.fits)

pub returns-clause-selected : goal.returns-clause-selected
returns-clause-selected g c = rw (← c.tree.view_is) c.find_below.ensures.selected

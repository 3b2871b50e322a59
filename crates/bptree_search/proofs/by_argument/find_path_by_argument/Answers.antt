use Rattle.std.proofs.Common.{ap, arith, length}
use Rattle.bptree_invariant.proofs.Low.{known_low}
use Rattle.bptree_search.proofs.Summed.{known_subtree}
use Rattle.bptree_search.proofs.by_argument.find_path_by_argument.Goals as goal

pub find_path_below-requires-clause-subtree : goal.find_path_below-requires-clause-subtree
find_path_below-requires-clause-subtree g c =
    rw (← c.tree.view_is) at (known_subtree g.S.NodeStore.slots c.recall.ensures.whole c.recall.ensures.fits)

pub find_path_below-requires-clause-room : goal.find_path_below-requires-clause-room
find_path_below-requires-clause-room g c =
    let low = rw (← c.tree.view_is) at (known_low g.S.NodeStore.slots c.recall.ensures.whole c.recall.ensures.fits) in
    omega (arith, low, ap length c.clear.ensures)

pub returns-clause-selected : goal.returns-clause-selected
returns-clause-selected g c = rw (← c.tree.view_is) c.find_path_below.ensures.selected

pub returns-clause-way : goal.returns-clause-way
returns-clause-way g c = rw (← c.tree.view_is) (rw c.clear.ensures at c.find_path_below.ensures.way)

use Rattle.bptree_batches.proofs.many.get_many.Goals as goal

pub find_groups-requires-clause-shape : goal.find_groups-requires-clause-shape
find_groups-requires-clause-shape g c = rw (← c.tree.view_is) at c.recall.ensures.whole.shape

pub returns : goal.returns
returns g c = rw (← c.tree.view_is) c.find_groups.ensures

use Rattle.bptree_batches.proofs.many.mark_many.Goals as goal

pub mark_groups-requires-clause-shape : goal.mark_groups-requires-clause-shape
mark_groups-requires-clause-shape g c = rw (← c.tree.view_is) at c.recall.ensures.whole.shape

pub returns : goal.returns
returns g c = rw (← c.tree.view_is) c.mark_groups.ensures

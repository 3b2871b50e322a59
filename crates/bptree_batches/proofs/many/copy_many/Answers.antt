use Rattle.bptree_batches.proofs.many.copy_many.Goals as goal

pub copy_groups-requires-clause-shape : goal.copy_groups-requires-clause-shape
copy_groups-requires-clause-shape g c = rw (← c.tree.view_is) at c.recall.ensures.whole.shape

pub returns-clause-values : goal.returns-clause-values
returns-clause-values g c = rw (← c.tree.view_is) c.copy_groups.ensures.values

pub returns-clause-marks : goal.returns-clause-marks
returns-clause-marks g c = rw (← c.tree.view_is) c.copy_groups.ensures.marks

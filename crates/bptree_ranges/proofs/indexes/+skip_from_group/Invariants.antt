use Rattle.bptree_ranges.proofs.indexes.+skip_from_group.Given as goal

abbrev pub decreases-skip_from_group : goal.decreases-skip_from_group
decreases-skip_from_group g l = l.height

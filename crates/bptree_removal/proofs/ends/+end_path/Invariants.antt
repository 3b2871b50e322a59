use Rattle.bptree_removal.proofs.ends.+end_path.Given as goal

abbrev pub decreases-end_path : goal.decreases-end_path
decreases-end_path g l = l.height

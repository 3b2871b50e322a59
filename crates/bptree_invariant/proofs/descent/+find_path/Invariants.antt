use Rattle.bptree_invariant.proofs.descent.+find_path.Given as goal

abbrev pub decreases-find_path : goal.decreases-find_path
decreases-find_path g l = l.height

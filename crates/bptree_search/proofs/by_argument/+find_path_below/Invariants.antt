use Rattle.bptree_search.proofs.by_argument.+find_path_below.Given as goal

abbrev pub decreases-find_path_below : goal.decreases-find_path_below
decreases-find_path_below g l = l.height

use Rattle.bptree_search.proofs.by_argument.+find_below.Given as goal

-- proposed from the arguments of the recursive call
abbrev pub decreases-find_below : goal.decreases-find_below
decreases-find_below g l = l.height

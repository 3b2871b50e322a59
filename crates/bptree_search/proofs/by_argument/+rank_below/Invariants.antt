use Rattle.bptree_search.proofs.by_argument.+rank_below.Given as goal

-- proposed from the arguments of the recursive call
abbrev pub decreases-rank_below : goal.decreases-rank_below
decreases-rank_below g l = l.height

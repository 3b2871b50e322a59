use Rattle.bptree_search.proofs.visiting.+visit_below.Given as goal

-- proposed from the arguments of the recursive call
abbrev pub decreases-visit_below : goal.decreases-visit_below
decreases-visit_below g l = l.height

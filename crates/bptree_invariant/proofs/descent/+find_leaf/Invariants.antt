use Rattle.bptree_invariant.proofs.descent.+find_leaf.Given as goal

-- proposed from the arguments of the recursive call
abbrev pub decreases-find_leaf : goal.decreases-find_leaf
decreases-find_leaf g l = l.height

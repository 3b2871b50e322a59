use Rattle.bptree_invariant.proofs.descent.+end_leaf.Given as goal

-- proposed from the arguments of the recursive call
abbrev pub decreases-end_leaf : goal.decreases-end_leaf
decreases-end_leaf g l = l.height

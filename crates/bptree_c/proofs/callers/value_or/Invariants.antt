use Rattle.bptree_c.proofs.callers.value_or.Given as goal

-- the list that the caller names
abbrev pub ghost-bptree_get : goal.ghost-bptree_get
ghost-bptree_get g a = g.pairs

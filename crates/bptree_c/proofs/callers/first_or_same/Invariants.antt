use Rattle.bptree_c.proofs.callers.first_or_same.Given as goal

-- the list that the caller names
abbrev pub ghost-bptree_first : goal.ghost-bptree_first
ghost-bptree_first g a = g.pairs

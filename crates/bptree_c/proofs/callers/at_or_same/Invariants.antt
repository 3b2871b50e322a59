use Rattle.bptree_c.proofs.callers.at_or_same.Given as goal

-- the list that the caller names
abbrev pub ghost-bptree_at : goal.ghost-bptree_at
ghost-bptree_at g a = g.pairs

use Rattle.bptree_c.proofs.callers.last_or_same.Given as goal

-- the list that the caller names
abbrev pub ghost-bptree_last : goal.ghost-bptree_last
ghost-bptree_last g a = g.pairs

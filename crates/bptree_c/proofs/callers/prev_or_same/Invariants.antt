use Rattle.bptree_c.proofs.callers.prev_or_same.Given as goal

-- the list that the caller names
abbrev pub ghost-bptree_prev : goal.ghost-bptree_prev
ghost-bptree_prev g a = g.pairs

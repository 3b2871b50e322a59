use Rattle.bptree_c.proofs.callers.popped_last_or_same.Given as goal

-- the list that the caller names
abbrev pub ghost-bptree_pop_last : goal.ghost-bptree_pop_last
ghost-bptree_pop_last g a = g.pairs

use Rattle.bptree_c.proofs.callers.popped_first_or_same.Given as goal

-- the list that the caller names
abbrev pub ghost-bptree_pop_first : goal.ghost-bptree_pop_first
ghost-bptree_pop_first g a = g.pairs

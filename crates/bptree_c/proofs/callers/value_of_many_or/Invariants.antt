use Rattle.bptree_c.proofs.callers.value_of_many_or.Given as goal

-- the list that the caller names
abbrev pub ghost-bptree_get_many : goal.ghost-bptree_get_many
ghost-bptree_get_many g a = g.pairs

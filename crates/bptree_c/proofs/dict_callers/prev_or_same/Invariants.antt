use Rattle.bptree_c.proofs.dict_callers.prev_or_same.Given as goal

-- the list that the caller names
abbrev pub ghost-bptree_dict_prev : goal.ghost-bptree_dict_prev
ghost-bptree_dict_prev g a = g.pairs

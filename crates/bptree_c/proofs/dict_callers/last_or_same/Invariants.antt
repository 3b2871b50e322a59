use Rattle.bptree_c.proofs.dict_callers.last_or_same.Given as goal

-- the list that the caller names
abbrev pub ghost-bptree_dict_last : goal.ghost-bptree_dict_last
ghost-bptree_dict_last g a = g.pairs

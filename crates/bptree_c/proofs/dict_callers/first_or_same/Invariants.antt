use Rattle.bptree_c.proofs.dict_callers.first_or_same.Given as goal

-- the list that the caller names
abbrev pub ghost-bptree_dict_first : goal.ghost-bptree_dict_first
ghost-bptree_dict_first g a = g.pairs

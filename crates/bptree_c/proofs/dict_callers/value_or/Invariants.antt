use Rattle.bptree_c.proofs.dict_callers.value_or.Given as goal

-- the list that the caller names
abbrev pub ghost-bptree_dict_get : goal.ghost-bptree_dict_get
ghost-bptree_dict_get g a = g.pairs

use Rattle.bptree_c.proofs.dict_callers.deleted_or_same.Given as goal

-- the list that the caller names
abbrev pub ghost-bptree_dict_del : goal.ghost-bptree_dict_del
ghost-bptree_dict_del g a = g.pairs

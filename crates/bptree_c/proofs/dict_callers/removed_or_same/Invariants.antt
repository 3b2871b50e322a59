use Rattle.bptree_c.proofs.dict_callers.removed_or_same.Given as goal

-- the list that the caller names
abbrev pub ghost-bptree_dict_del_at : goal.ghost-bptree_dict_del_at
ghost-bptree_dict_del_at g a = g.pairs

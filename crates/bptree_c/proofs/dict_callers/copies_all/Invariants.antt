use Rattle.bptree_c.proofs.dict_callers.copies_all.Given as goal

-- the list that the caller names
abbrev pub ghost-bptree_dict_clone : goal.ghost-bptree_dict_clone
ghost-bptree_dict_clone g a = g.pairs

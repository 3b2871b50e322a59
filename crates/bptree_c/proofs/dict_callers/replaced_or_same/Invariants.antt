use Rattle.bptree_c.proofs.dict_callers.replaced_or_same.Given as goal

-- the list that the caller names
abbrev pub ghost-bptree_dict_put : goal.ghost-bptree_dict_put
ghost-bptree_dict_put g a = g.pairs

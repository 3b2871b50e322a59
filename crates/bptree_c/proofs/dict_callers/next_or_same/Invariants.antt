use Rattle.bptree_c.proofs.dict_callers.next_or_same.Given as goal

-- the list that the caller names
abbrev pub ghost-bptree_dict_next : goal.ghost-bptree_dict_next
ghost-bptree_dict_next g a = g.pairs

use Rattle.bptree_c.proofs.callers.removed_or_same.Given as goal

-- the list that the caller names
abbrev pub ghost-bptree_del_at : goal.ghost-bptree_del_at
ghost-bptree_del_at g a = g.pairs

use Rattle.bptree_c.proofs.callers.deleted_or_same.Given as goal

-- the list that the caller names
abbrev pub ghost-bptree_del : goal.ghost-bptree_del
ghost-bptree_del g a = g.pairs

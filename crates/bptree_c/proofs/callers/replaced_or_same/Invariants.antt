use Rattle.bptree_c.proofs.callers.replaced_or_same.Given as goal

-- the list that the caller names
abbrev pub ghost-bptree_put : goal.ghost-bptree_put
ghost-bptree_put g a = g.pairs

use Rattle.bptree_c.proofs.callers.next_or_same.Given as goal

-- the list that the caller names
abbrev pub ghost-bptree_next : goal.ghost-bptree_next
ghost-bptree_next g a = g.pairs

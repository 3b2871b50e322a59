use Rattle.std.proofs.Common.{[]}
use Rattle.bptree_c.proofs.callers.copies_none.Given as goal

-- the map has no pairs
abbrev pub ghost-bptree_range : goal.ghost-bptree_range
ghost-bptree_range l = []

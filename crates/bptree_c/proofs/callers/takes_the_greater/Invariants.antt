use Rattle.std.proofs.Common.{[], ◌∷◌}
use Rattle.bptree_c.proofs.callers.takes_the_greater.Given as goal

-- the map has two pairs
abbrev pub ghost-bptree_pop_last : goal.ghost-bptree_pop_last
ghost-bptree_pop_last l = (1, 10) ∷ (2, 20) ∷ []

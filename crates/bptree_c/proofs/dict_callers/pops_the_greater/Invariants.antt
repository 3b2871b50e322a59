use Rattle.std.proofs.Common.{[], ◌∷◌}
use Rattle.bptree_c.proofs.dict_callers.pops_the_greater.Given as goal

-- the map has two pairs
abbrev pub ghost-bptree_dict_pop_last : goal.ghost-bptree_dict_pop_last
ghost-bptree_dict_pop_last l = (7 ∷ [], 70) ∷ (8 ∷ [], 80) ∷ []

use Rattle.std.proofs.Common.{[], ◌∷◌}
use Rattle.bptree_c.proofs.dict_callers.pops_the_lesser.Given as goal

-- the map has two pairs
abbrev pub ghost-bptree_dict_pop_first : goal.ghost-bptree_dict_pop_first
ghost-bptree_dict_pop_first l = (7 ∷ [], 70) ∷ (8 ∷ [], 80) ∷ []

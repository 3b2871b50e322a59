use Rattle.std.proofs.Common.{[], ◌∷◌}
use Rattle.bptree_c.proofs.dict_callers.pops_no_long_key.Given as goal

-- the map has one pair
abbrev pub ghost-bptree_dict_pop_first : goal.ghost-bptree_dict_pop_first
ghost-bptree_dict_pop_first l = (7 ∷ 8 ∷ [], 70) ∷ []

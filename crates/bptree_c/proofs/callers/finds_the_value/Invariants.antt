use Rattle.std.proofs.Common.{[], ◌∷◌}
use Rattle.bptree_c.proofs.callers.finds_the_value.Given as goal

-- the map has one pair
abbrev pub ghost-bptree_get : goal.ghost-bptree_get
ghost-bptree_get l = (7, 70) ∷ []

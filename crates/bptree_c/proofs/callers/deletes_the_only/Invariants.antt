use Rattle.std.proofs.Common.{[], ◌∷◌}
use Rattle.bptree_c.proofs.callers.deletes_the_only.Given as goal

-- the map has one pair
abbrev pub ghost-bptree_del : goal.ghost-bptree_del
ghost-bptree_del l = (7, 70) ∷ []

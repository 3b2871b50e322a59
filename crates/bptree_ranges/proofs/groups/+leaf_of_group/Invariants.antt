use Rattle.bptree_ranges.proofs.groups.+leaf_of_group.Given as goal

-- proposed from the arguments of the function's recursive call
abbrev pub decreases-leaf_of_group : goal.decreases-leaf_of_group
decreases-leaf_of_group g l = l.height

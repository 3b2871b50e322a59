use Rattle.bptree_ranges.proofs.counting.+count_smaller.Given as goal

-- proposed from the arguments of the function's recursive call
abbrev pub decreases-count_smaller : goal.decreases-count_smaller
decreases-count_smaller g l = l.height

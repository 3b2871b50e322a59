use Rattle.bptree_ranges.proofs.summaries.+summary_within.Given as goal

-- proposed from the arguments of the function's recursive call
abbrev pub decreases-summary_within : goal.decreases-summary_within
decreases-summary_within g l = l.height

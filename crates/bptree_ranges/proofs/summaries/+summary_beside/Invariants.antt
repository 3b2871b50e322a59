use Rattle.bptree_ranges.proofs.summaries.+summary_beside.Given as goal

abbrev pub decreases-summary_beside : goal.decreases-summary_beside
decreases-summary_beside g l = l.height

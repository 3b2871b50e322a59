use Rattle.std.proofs.Common.{ap, sym, ◌∙◌}
use Rattle.std.specs.Option.{option_copied}
use Rattle.bptree_invariant.proofs.Between.{all_below}
use Rattle.bptree_ranges.proofs.summaries.end_in.Goals as goal

pub returns-in-None-clause-below : goal.returns-in-None-clause-below
returns-in-None-clause-below g c ascending = c.len.ensures.value ∙ sym (all_below g.K.Ord.cmp (option_copied c.args.hi) c.args.leaf.now.pairs (ap option_copied c.in-None.is))

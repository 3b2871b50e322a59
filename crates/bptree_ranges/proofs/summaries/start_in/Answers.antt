use Rattle.std.proofs.Common.{ap, sym}
use Rattle.std.specs.Option.{option_copied}
use Rattle.bptree_invariant.proofs.Between.{none_short}
use Rattle.bptree_ranges.proofs.summaries.start_in.Goals as goal

pub returns-in-None-clause-short : goal.returns-in-None-clause-short
returns-in-None-clause-short g c ascending = sym (none_short g.K.Ord.cmp (option_copied c.args.lo) c.args.leaf.now.pairs (ap option_copied c.in-None.is))

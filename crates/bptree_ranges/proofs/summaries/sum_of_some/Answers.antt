use Rattle.bptree_ranges.proofs.Sums.{range_summed}
use Rattle.bptree_ranges.proofs.summaries.sum_of_some.Goals as goal

pub returns : goal.returns
returns g c = range_summed g.A.Argument.is_summary c.in_ok-from_inner.field-0 c.args.arguments.now c.args.from c.args.to c.requires c.if-to-from.false c.in_ok-from_inner.ensures.summary

use Rattle.std.specs.Option.{option_copied}
use Rattle.bptree_ranges.proofs.Sums.{none_in_leaf, some_in_leaf}
use Rattle.bptree_ranges.proofs.summaries.summary_in_leaf.Goals as goal

pub returns-then-to-from : goal.returns-then-to-from
returns-then-to-from g c ascending =
    none_in_leaf g.met.K.Ord.total c.args.leaf.now.pairs (option_copied c.args.lo) (option_copied c.args.hi) c.start_in-from.result c.end_in-to.result ascending (c.start_in-from.ensures.short ascending) (c.end_in-to.ensures.below ascending) c.if-to-from.true

pub returns : goal.returns
returns g c ascending =
    some_in_leaf g.met.K.Ord.total c.args.leaf.now.pairs (option_copied c.args.lo) (option_copied c.args.hi) c.start_in-from.result c.end_in-to.result ascending (c.start_in-from.ensures.short ascending) (c.end_in-to.ensures.below ascending)
    g.A.Argument.is_summary c.in_ok-from_leaf.field-0 c.keys.result.now c.keys.ensures.value c.if-to-from.false c.end_in-to.ensures.within c.in_ok-from_leaf.ensures.summary

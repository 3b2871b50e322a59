use Rattle.std.proofs.lemmas.List.{take_all}
use Rattle.std.proofs.Common.{arith}
use Rattle.bptree_examples.proofs.DateSums.{more_counted}
use Rattle.bptree_examples.proofs.examples.date_statistic.counted.Goals as goal

pub loop-other-preserved : goal.loop-other-preserved
loop-other-preserved c = more_counted c.args.date c.args.dates.now c.loop-other.other-index _ c.loop-other.counter c.with-counter.result c.loop-other-test.true (omega arith) c.loop-other.invariant c.with-counter.ensures.year c.with-counter.ensures.month c.with-counter.ensures.day

pub returns-clause-entry : goal.returns-clause-entry
returns-clause-entry c = rw (take_all c.loop-other.other-index c.args.dates.now (omega arith)) at c.loop-other.invariant

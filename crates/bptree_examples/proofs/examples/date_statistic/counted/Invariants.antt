use Rattle.std.proofs.Common.{take}
use Rattle.bptree_examples.specs.Dates.{IsEntry}
use Rattle.bptree_examples.proofs.examples.date_statistic.counted.Given as goal

abbrev pub invariant-loop-other : goal.invariant-loop-other
invariant-loop-other l = IsEntry (take l.other-index l.dates) (record { date = l.date; counter = l.counter })

use Rattle.std.proofs.Common.{take}
use Rattle.bptree_examples.proofs.DateSums.{IsSum}
use Rattle.bptree_examples.proofs.examples.date_statistic.DateStatisticArgumentArgumentDate.from_inner.Given as goal

abbrev pub invariant-loop-argument : goal.invariant-loop-argument
invariant-loop-argument l = IsSum l.first (λ a. a.min) (take l.argument-index l.arguments) l.least × IsSum l.last (λ a. a.max) (take l.argument-index l.arguments) l.greatest

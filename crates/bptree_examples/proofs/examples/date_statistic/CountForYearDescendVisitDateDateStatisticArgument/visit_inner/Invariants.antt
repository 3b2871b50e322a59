use Rattle.std.proofs.Common.{◌≡◌, ◌+◌, ◌-◌, ◌^◌, List, min, take}
use Rattle.std.specs.List.{AllZip}
use Rattle.bptree_keys.specs.Pieces.{ArePieces, flatten}
use Rattle.bptree_examples.specs.declared.examples.date_statistic.Date.{Date}
use Rattle.bptree_examples.specs.Dates.{in_year, IsStatistic}
use Rattle.bptree_examples.proofs.DateOrder.{date_order}
use Rattle.bptree_examples.proofs.examples.date_statistic.CountForYearDescendVisitDateDateStatisticArgument.visit_inner.Given as goal

-- The visitor is unchanged, and the count so far is that of the pieces so far.
abbrev pub invariant-loop-i : goal.invariant-loop-i
invariant-loop-i g l = record {
  same : l.self ≡ l.fn.self;
  sum : (pieces : List (List Date)) → ArePieces date_order pieces → AllZip IsStatistic l.arguments pieces → l.counted ≡ min (l.fn.self.counted + in_year l.fn.self.year (flatten (take l.i pieces))) (2 ^ 64 - 1);
}

use Rattle.std.proofs.Common.{arith}
use Rattle.std.proofs.lemmas.Map.Entries.{length-keys_of}
use Rattle.std.proofs.lemmas.Result.{IfOk-weaker}
use Rattle.std.specs.Map.{keys_of}
use Rattle.bptree_examples.proofs.YearReported.{year_reported}
use Rattle.bptree_examples.proofs.examples.date_statistic.days_of.Goals as goal

pub returns-clause-counted : goal.returns-clause-counted
returns-clause-counted c =
    let pairs = c.args.calendar.now in
    IfOk-weaker c.descend_visit.result _ _
    (λ outcome e. year_reported outcome c.args.year c.new.result.year c.new.result.counted (keys_of pairs) e c.new.ensures.year c.new.ensures.counted (omega (arith, length-keys_of pairs, c.recall.ensures.fits)))
    c.descend_visit.ensures.outcome

use Rattle.std.proofs.Common.{length, arith, refl, sym}
use Rattle.std.proofs.lemmas.Bool.{eqb-false}
use Rattle.std.proofs.lemmas.List.{take_all}
use Rattle.bptree_examples.proofs.DateOrder.{in_order}
use Rattle.bptree_examples.proofs.DateSums.{more_summed, whole_summed}
use Rattle.bptree_examples.proofs.examples.date_statistic.DateStatisticArgumentArgumentDate.from_inner.Goals as goal

pub loop-argument-preserved : goal.loop-argument-preserved
loop-argument-preserved c = (
  more_summed _ (λ a. a.min) c.args.arguments.now c.loop-argument.argument-index _ c.loop-argument.least c.with-least.result c.loop-argument-test.true c.loop-argument.invariant.0 c.with-least.ensures.year c.with-least.ensures.month c.with-least.ensures.day,
  more_summed _ (λ a. a.max) c.args.arguments.now c.loop-argument.argument-index _ c.loop-argument.greatest c.with-greatest.result c.loop-argument-test.true c.loop-argument.invariant.1 c.with-greatest.ensures.year c.with-greatest.ensures.month c.with-greatest.ensures.day,
)

pub returns-clause-summary : goal.returns-clause-summary
returns-clause-summary c = λ pieces are summaries.
    let whole = take_all c.loop-argument.argument-index c.args.arguments.now (omega arith) in
    let sums = rw whole at c.loop-argument.invariant in
    let some = eqb-false (length c.args.arguments.now) 0 (sym c.if-is_empty.ensures) in
    whole_summed in_order c.args.arguments.now pieces are summaries (record { date = _; counter = c.loop-argument.least }) (record { date = _; counter = c.loop-argument.greatest }) _ (omega (arith, some)) refl refl sums.0 sums.1

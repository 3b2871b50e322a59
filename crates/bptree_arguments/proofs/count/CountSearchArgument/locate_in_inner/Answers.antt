use Rattle.std.proofs.Common.{arith}
use Rattle.std.proofs.lemmas.List.{take_all}
use Rattle.bptree_arguments.proofs.CountLemmas.{sum_by-lengths, count_leads}
use Rattle.bptree_arguments.proofs.count.CountSearchArgument.locate_in_inner.Goals as goal

pub returns-then-rest-argument-clause-leads : goal.returns-then-rest-argument-clause-leads
returns-then-rest-argument-clause-leads g c = λ pieces are summaries.
    count_leads (λ a. a.0) c.args.arguments.now pieces summaries c.loop-i.i c.args.query c.loop-i.rest _ c.loop-i-test.true c.loop-i.invariant c.if-rest-argument.true

pub returns-clause-leads : goal.returns-clause-leads
returns-clause-leads g c = λ pieces are summaries.
    let exact = sum_by-lengths (λ a. a.0) c.args.arguments.now pieces summaries in
    let whole = take_all c.loop-i.i c.args.arguments.now (omega arith) in
    omega (arith, exact, rw whole at c.loop-i.invariant)

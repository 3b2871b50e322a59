use Rattle.std.proofs.Common.{◌∙◌, arith}
use Rattle.std.proofs.lemmas.List.{take_all}
use Rattle.bptree_examples.proofs.SaleSums.{amounts_flat}
use Rattle.bptree_examples.proofs.uses.revenue.RevenueArgumentSale.from_inner.Goals as goal

pub returns-clause-summary : goal.returns-clause-summary
returns-clause-summary c = λ pieces are summaries.
    let whole = take_all c.loop-argument.argument-index c.args.arguments.now (omega arith) in
    (rw whole at c.loop-argument.invariant) ∙ amounts_flat c.args.arguments.now pieces summaries

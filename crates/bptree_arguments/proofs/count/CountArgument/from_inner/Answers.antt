use Rattle.std.proofs.Common.{arith}
use Rattle.bptree_arguments.proofs.CountLemmas.{sum_by-lengths}
use Rattle.bptree_arguments.proofs.count.CountArgument.from_inner.Goals as goal

pub returns-clause-summary : goal.returns-clause-summary
returns-clause-summary g c = λ pieces are summaries.
    omega (arith, sum_by-lengths (λ a. a.0) c.args.arguments.now pieces summaries, are.fits, c.total_of.ensures)

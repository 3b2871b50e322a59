use Rattle.std.proofs.Common.{arith, length-append}
use Rattle.bptree_arguments.proofs.CountLemmas.{sum_by-lengths}
use Rattle.bptree_arguments.proofs.count.CountRankArgument.fold_inner.Goals as goal
use Rattle.bptree_keys.specs.Pieces.{flatten}

pub returns-clause-carries : goal.returns-clause-carries
returns-clause-carries g c =
    λ before pieces nonempty summaries ascending below fits stored.
    omega (arith, sum_by-lengths (λ a. a.0) c.args.arguments.now pieces summaries, fits, stored, length-append before (flatten pieces), c.total_of.ensures)

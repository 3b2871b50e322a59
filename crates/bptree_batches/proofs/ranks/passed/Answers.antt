use Rattle.std.proofs.Common.{arith, length-append}
use Rattle.bptree_arguments.proofs.CountLemmas.{sum_by-lengths}
use Rattle.bptree_keys.specs.Pieces.{flatten}
use Rattle.bptree_batches.proofs.ranks.passed.Goals as goal

pub returns : goal.returns
returns g c =
    λ k before pieces nonempty summaries ascending below fits stored.
    omega (arith, sum_by-lengths (λ a. a.0) c.args.counts.now pieces summaries, fits, stored, length-append before (flatten pieces), c.total_of.ensures)

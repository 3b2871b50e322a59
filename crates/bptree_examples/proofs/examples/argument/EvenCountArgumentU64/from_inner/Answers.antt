use Rattle.std.proofs.Common.{◌%◌, nat_eq, arith}
use Rattle.std.proofs.lemmas.List.{take_all}
use Rattle.std.proofs.lemmas.List.Sums.{length-filter, count_by-le-length}
use Rattle.bptree_arguments.proofs.CountLemmas.{sum_by-filters}
use Rattle.bptree_examples.proofs.examples.argument.EvenCountArgumentU64.from_inner.Goals as goal
use Rattle.bptree_keys.specs.Pieces.{flatten}

pub returns-clause-summary : goal.returns-clause-summary
returns-clause-summary c = λ pieces are summaries.
    let exact = sum_by-filters (λ a. a.0) (λ k. nat_eq (k % 2) 0) c.args.arguments.now pieces summaries in
    let whole = take_all c.loop-argument.argument-index c.args.arguments.now (omega arith) in
    omega (arith, exact, length-filter (λ k. nat_eq (k % 2) 0) (flatten pieces), count_by-le-length (λ k. nat_eq (k % 2) 0) (flatten pieces), are.fits, rw whole at c.loop-argument.invariant)

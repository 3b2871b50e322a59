use Rattle.std.proofs.Common.{arith}
use Rattle.bptree_nodes.proofs.Iterables.{given_by_vec}
use Rattle.bptree_trials.proofs.parts.inner_of_given.Goals as goal

pub new_from_iter-requires-clause-counts : goal.new_from_iter-requires-clause-counts
new_from_iter-requires-clause-counts g c = λ ks cs xs keys children arguments.
    let k = given_by_vec c.args.keys ks keys.0 keys.1.0 (omega (arith, keys.1.1)) keys.2 in
    let l = given_by_vec c.args.children cs children.0 children.1.0 (omega (arith, children.1.1)) children.2 in
    let a = given_by_vec c.args.arguments xs arguments.0 arguments.1.0 (omega (arith, arguments.1.1)) arguments.2 in
    rw (k, l, a) (omega arith, omega arith, omega arith)

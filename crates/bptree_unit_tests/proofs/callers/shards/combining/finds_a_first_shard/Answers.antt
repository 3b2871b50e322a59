use Rattle.std.proofs.Common.{◌≤◌, arith}
use Rattle.bptree_unit_tests.proofs.ShardSums.{none_in, none_before}
use Rattle.bptree_unit_tests.proofs.callers.shards.combining.finds_a_first_shard.Goals as goal

pub returns-in_err-shard-clause-some : goal.returns-in_err-shard-clause-some
returns-in_err-shard-clause-some c = λ some.
    let none = none_in c.args.lengths.now (λ i h. let low : 0 ≤ i = omega arith in c.in_err-shard.ensures i low h) in
    absurd (omega (arith, some, none))

pub rank_of_whole-requires-clause-fits : goal.rank_of_whole-requires-clause-fits
rank_of_whole-requires-clause-fits c = let none = none_before c.args.lengths.now c.in_ok-shard.shard c.in_ok-shard.ensures.3 in omega (arith, none)

pub returns-clause-none_before : goal.returns-clause-none_before
returns-clause-none_before c = let none = none_before c.args.lengths.now c.in_ok-shard.shard c.in_ok-shard.ensures.3 in omega (arith, none)

use Rattle.std.proofs.Common.{◌∙◌}
use Rattle.bptree_unit_tests.proofs.ShardSums.{all_upto}
use Rattle.bptree_unit_tests.proofs.callers.shards.combining.ends_behind_the_last_shard.Goals as goal

pub returns : goal.returns
returns c = c.rank_of_whole.ensures ∙ all_upto c.args.lengths.now c.in_ok-shard.shard c.in_ok-shard.ensures.0 c.in_ok-shard.ensures.2

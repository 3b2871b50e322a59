use Rattle.std.proofs.Common.{Some, ◌∙◌}
use Rattle.bptree_keys.specs.Ranges.{between}
use Rattle.bptree_shard_routing.specs.Shards.{shard_of, shard_below}
use Rattle.bptree_unit_tests.proofs.ShardKeys.{of_one}
use Rattle.bptree_unit_tests.proofs.callers.shards.keys.shows_a_page_of_its_shard.Goals as goal

pub returns-clause-between : goal.returns-clause-between
returns-clause-between g c = λ bounds shards lo hi are same.
    let cmp = g.K.Ord.cmp in
    c.laws_of_ranges.ensures.between bounds shards (Some lo) (Some hi) are
    ∙ of_one (λ shard. between cmp shard (Some lo) (Some hi)) shards (shard_of cmp bounds lo) (shard_below cmp bounds hi) same (c.laws_of_routing.ensures.own_there bounds shards lo are)

use Rattle.bptree_shard_routing.proofs.EmptyLemmas.{empty_shards}
use Rattle.bptree_shard_routing.proofs.laws.law_of_empty_shards.Goals as goal

pub returns : goal.returns
returns g c = λ bounds shards count none. empty_shards g.K.Ord.cmp bounds shards count none

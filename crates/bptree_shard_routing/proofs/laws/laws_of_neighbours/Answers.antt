use Rattle.bptree_shard_routing.proofs.RangeLemmas.{next_found, previous_lower, previous_routed}
use Rattle.bptree_shard_routing.proofs.ShardLemmas.{rank_routed, next_routed}
use Rattle.bptree_shard_routing.proofs.laws.laws_of_neighbours.Goals as goal

pub returns-clause-rank : goal.returns-clause-rank
returns-clause-rank g c = λ bounds shards k are. rank_routed g.K.Ord.cmp g.met.K.Ord.total bounds shards k are

pub returns-clause-next : goal.returns-clause-next
returns-clause-next g c = λ bounds shards k are. next_routed g.K.Ord.cmp g.met.K.Ord.total bounds shards k are

pub returns-clause-next_full : goal.returns-clause-next_full
returns-clause-next_full g c = λ bounds shards k found are is. next_found g.K.Ord.cmp g.met.K.Ord.total bounds shards k are found is

pub returns-clause-prev_full : goal.returns-clause-prev_full
returns-clause-prev_full g c = λ bounds shards k found are is. previous_routed g.K.Ord.cmp g.met.K.Ord.total bounds shards k are found is

pub returns-clause-prev : goal.returns-clause-prev
returns-clause-prev g c = λ bounds shards k are. previous_lower g.K.Ord.cmp g.met.K.Ord.total bounds shards k are

use Rattle.bptree_shard_routing.proofs.ShardLemmas.{routed, value_routed, has_routed, put_routed, put_stays, del_routed, del_stays}
use Rattle.bptree_shard_routing.proofs.RangeLemmas.{routed_below}
use Rattle.bptree_shard_routing.proofs.laws.laws_of_routing.Goals as goal

pub returns-clause-value : goal.returns-clause-value
returns-clause-value g c = λ bounds shards k are. value_routed g.K.Ord.cmp g.met.K.Ord.total bounds shards k are

pub returns-clause-has : goal.returns-clause-has
returns-clause-has g c = λ bounds shards k are. has_routed g.K.Ord.cmp g.met.K.Ord.total bounds shards k are

pub returns-clause-put : goal.returns-clause-put
returns-clause-put g c = λ bounds shards k v are. (put_stays g.K.Ord.cmp g.met.K.Ord.total bounds shards k are v, put_routed g.K.Ord.cmp g.met.K.Ord.total bounds shards k are v)

pub returns-clause-del : goal.returns-clause-del
returns-clause-del g c = λ bounds shards k are. (del_stays g.K.Ord.cmp g.met.K.Ord.total bounds shards k are, del_routed g.K.Ord.cmp g.met.K.Ord.total bounds shards k are)

pub returns-clause-own_there : goal.returns-clause-own_there
returns-clause-own_there g c = λ bounds shards k are. (routed g.K.Ord.cmp g.met.K.Ord.total k bounds shards are.between).in_range

pub returns-clause-lower_there : goal.returns-clause-lower_there
returns-clause-lower_there g c = λ bounds shards k are. (routed_below g.K.Ord.cmp g.met.K.Ord.total k bounds shards are.between).in_range

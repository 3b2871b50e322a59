use Rattle.bptree_shard_routing.proofs.RangeLemmas.{from_routed, back_routed, between_routed, inner_whole}
use Rattle.bptree_shard_routing.proofs.laws.laws_of_ranges.Goals as goal

pub returns-clause-forward : goal.returns-clause-forward
returns-clause-forward g c = λ bounds shards k n are. from_routed g.K.Ord.cmp g.met.K.Ord.total bounds shards k are n

pub returns-clause-back : goal.returns-clause-back
returns-clause-back g c = λ bounds shards k n are. back_routed g.K.Ord.cmp g.met.K.Ord.total bounds shards k are n

pub returns-clause-between : goal.returns-clause-between
returns-clause-between g c = λ bounds shards lo hi are. between_routed g.K.Ord.cmp g.met.K.Ord.total bounds shards are lo hi

pub returns-clause-inner : goal.returns-clause-inner
returns-clause-inner g c = λ bounds shards lo hi i are from to. inner_whole g.K.Ord.cmp g.met.K.Ord.total bounds shards are lo hi i from to

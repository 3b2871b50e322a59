use Rattle.bptree_shard_routing.proofs.MoveLemmas.{shard_splits}
use Rattle.bptree_shard_routing.proofs.moves.laws_of_moves.Goals as goal

pub returns-clause-split : goal.returns-clause-split
returns-clause-split g c = shard_splits g.K.Ord.cmp g.met.K.Ord.total

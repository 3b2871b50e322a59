use Rattle.bptree_map.proofs.KeyLemmas.{gather_same}
use Rattle.bptree_map.proofs.gathering.law_of_from_iter.Goals as goal

pub returns : goal.returns
returns g c = gather_same g.K.Ord.cmp g.met.K.Ord.total

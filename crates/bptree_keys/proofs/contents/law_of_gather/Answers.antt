use Rattle.bptree_keys.proofs.Laws.{gather_ascending}
use Rattle.bptree_keys.proofs.contents.law_of_gather.Goals as goal

pub returns : goal.returns
returns g c = λ pairs. gather_ascending g.K.Ord.cmp g.met.K.Ord.total pairs

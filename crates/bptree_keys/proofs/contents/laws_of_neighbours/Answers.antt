use Rattle.bptree_keys.proofs.Neighbours.{next_is_least, previous_is_greatest}
use Rattle.bptree_keys.proofs.contents.laws_of_neighbours.Goals as goal

pub returns-clause-next : goal.returns-clause-next
returns-clause-next g c = λ l k ascending. next_is_least g.K.Ord.cmp g.met.K.Ord.total k l ascending

pub returns-clause-previous : goal.returns-clause-previous
returns-clause-previous g c = λ l k ascending. previous_is_greatest g.K.Ord.cmp g.met.K.Ord.total k l ascending

use Rattle.bptree_keys.proofs.Updates.{del_ascending, value_del, has_del, length_del}
use Rattle.bptree_keys.proofs.contents.laws_of_del.Goals as goal

pub returns-clause-order : goal.returns-clause-order
returns-clause-order g c = λ l k ascending. del_ascending g.K.Ord.cmp l k ascending

pub returns-clause-value : goal.returns-clause-value
returns-clause-value g c = λ l k j ascending. value_del g.K.Ord.cmp g.met.K.Ord.total l ascending k j

pub returns-clause-has : goal.returns-clause-has
returns-clause-has g c = λ l k j ascending. has_del g.K.Ord.cmp g.met.K.Ord.total l ascending k j

pub returns-clause-len : goal.returns-clause-len
returns-clause-len g c = λ l k ascending. length_del g.K.Ord.cmp g.met.K.Ord.total l ascending k

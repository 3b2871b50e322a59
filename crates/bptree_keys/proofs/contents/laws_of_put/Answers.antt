use Rattle.bptree_keys.proofs.Laws.{put_ascending}
use Rattle.bptree_keys.proofs.Updates.{value_put, has_put, length_put}
use Rattle.bptree_keys.proofs.contents.laws_of_put.Goals as goal

pub returns-clause-order : goal.returns-clause-order
returns-clause-order g c = λ l k v ascending. put_ascending g.K.Ord.cmp g.met.K.Ord.total l ascending k v

pub returns-clause-value : goal.returns-clause-value
returns-clause-value g c = λ l k j v ascending. value_put g.K.Ord.cmp g.met.K.Ord.total l ascending k v j

pub returns-clause-has : goal.returns-clause-has
returns-clause-has g c = λ l k j v ascending. has_put g.K.Ord.cmp g.met.K.Ord.total l ascending k v j

pub returns-clause-len : goal.returns-clause-len
returns-clause-len g c = λ l k v ascending. length_put g.K.Ord.cmp g.met.K.Ord.total l ascending k v

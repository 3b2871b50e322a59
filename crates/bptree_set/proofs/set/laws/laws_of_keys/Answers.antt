use Rattle.bptree_map.proofs.KeyLemmas.{with_ascending, with_holds, with_length, without_ascending, without_holds, without_length, gathered_ascending, gathered_same}
use Rattle.bptree_set.proofs.set.laws.laws_of_keys.Goals as goal

pub returns-clause-with_key : goal.returns-clause-with_key
returns-clause-with_key g c = (
  λ keys k ascending. with_ascending g.K.Ord.cmp g.met.K.Ord.total keys ascending k,
  λ keys k j ascending. with_holds g.K.Ord.cmp g.met.K.Ord.total keys ascending k j,
  λ keys k ascending. with_length g.K.Ord.cmp g.met.K.Ord.total keys ascending k,
)

pub returns-clause-without_key : goal.returns-clause-without_key
returns-clause-without_key g c = (
  λ keys k ascending. without_ascending g.K.Ord.cmp g.met.K.Ord.total keys ascending k,
  λ keys k j ascending. without_holds g.K.Ord.cmp g.met.K.Ord.total keys ascending k j,
  λ keys k ascending. without_length g.K.Ord.cmp g.met.K.Ord.total keys ascending k,
)

pub returns-clause-gathered : goal.returns-clause-gathered
returns-clause-gathered g c = λ keys. gathered_ascending g.K.Ord.cmp g.met.K.Ord.total keys

pub returns-clause-same : goal.returns-clause-same
returns-clause-same g c = λ keys ascending. gathered_same g.K.Ord.cmp g.met.K.Ord.total keys ascending

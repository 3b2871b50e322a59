use Rattle.bptree_load_plan.proofs.OrderLemmas.{load_is_gather, load_ascending, load_same, value_load, ordered_if_ascending, load_runs}
use Rattle.bptree_load_plan.proofs.loading.laws_of_load.Goals as goal

pub returns-clause-order : goal.returns-clause-order
returns-clause-order g c = λ l ordered. load_ascending g.K.Ord.cmp g.met.K.Ord.total l ordered

pub returns-clause-gather : goal.returns-clause-gather
returns-clause-gather g c = λ l ordered. load_is_gather g.K.Ord.cmp g.met.K.Ord.total l ordered

pub returns-clause-value : goal.returns-clause-value
returns-clause-value g c = λ l k ordered. value_load g.K.Ord.cmp g.met.K.Ord.total l k ordered

pub returns-clause-same : goal.returns-clause-same
returns-clause-same g c = λ l ascending. load_same g.K.Ord.cmp g.met.K.Ord.total l ascending

pub returns-clause-ascending : goal.returns-clause-ascending
returns-clause-ascending g c = λ l ascending. ordered_if_ascending g.K.Ord.cmp g.met.K.Ord.total l ascending

pub returns-clause-runs : goal.returns-clause-runs
returns-clause-runs g c = λ l. load_runs g.K.Ord.cmp g.met.K.Ord.total l

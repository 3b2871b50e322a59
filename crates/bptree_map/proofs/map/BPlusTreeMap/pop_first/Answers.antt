use Rattle.std.proofs.lemmas.Result.{IfOk-weaker}
use Rattle.bptree_map.proofs.PopLemmas.{popped}
use Rattle.bptree_map.proofs.map.BPlusTreeMap.pop_first.Goals as goal

pub returns-clause-ok : goal.returns-clause-ok
returns-clause-ok g c = rw (← c.self.view_is) (IfOk-weaker c.pop_first.result _ _ (λ gone taken. popped g.met.K.Ord.total _ _ gone taken) c.pop_first.ensures.ok)

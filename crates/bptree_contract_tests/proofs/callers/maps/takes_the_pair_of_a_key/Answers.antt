use Rattle.std.proofs.lemmas.Result.{IfOk-weaker}
use Rattle.bptree_contract_tests.proofs.EntryLemmas.{taken_key, taken_value, taken_index}
use Rattle.bptree_contract_tests.proofs.callers.maps.takes_the_pair_of_a_key.Goals as goal

pub returns-clause-key : goal.returns-clause-key
returns-clause-key g c = IfOk-weaker c.remove_entry.result _ _ (λ gone is. taken_key g.K.Ord.cmp c.args.k.now c.args.map.now gone is.0) c.remove_entry.ensures.ok

pub returns-clause-value : goal.returns-clause-value
returns-clause-value g c = IfOk-weaker c.remove_entry.result _ _ (λ gone is. taken_value g.K.Ord.cmp c.args.k.now c.args.map.now gone is.0) c.remove_entry.ensures.ok

pub returns-clause-stored : goal.returns-clause-stored
returns-clause-stored g c = IfOk-weaker c.remove_entry.result _ _ (λ gone is. taken_index g.K.Ord.cmp c.args.k.now c.args.map.now gone is.0) c.remove_entry.ensures.ok

use Rattle.std.proofs.lemmas.Result.{IfOk-weaker}
use Rattle.bptree_contract_tests.proofs.EntryLemmas.{taken_key, taken_value}
use Rattle.bptree_contract_tests.proofs.callers.changes.takes_the_pair_of_a_key.Goals as goal

pub returns-clause-key : goal.returns-clause-key
returns-clause-key g c = IfOk-weaker c.remove_entry.result _ _ (λ gone is. taken_key g.S.K.Ord.cmp c.args.k.now c.args.tree.now.contents gone is.0) c.remove_entry.ensures.ok

pub returns-clause-value : goal.returns-clause-value
returns-clause-value g c = IfOk-weaker c.remove_entry.result _ _ (λ gone is. taken_value g.S.K.Ord.cmp c.args.k.now c.args.tree.now.contents gone is.0) c.remove_entry.ensures.ok

use Rattle.std.proofs.lemmas.Result.{IfOk-weaker}
use Rattle.bptree_contract_tests.proofs.EntryLemmas.{first_of_two}
use Rattle.bptree_contract_tests.proofs.callers.changes.pops_the_first_of_two.Goals as goal

pub returns-clause-popped : goal.returns-clause-popped
returns-clause-popped g c = IfOk-weaker c.pop_first.result _ _ (λ gone taken. λ a b is. first_of_two a b _ gone (rw is at taken)) c.pop_first.ensures.ok

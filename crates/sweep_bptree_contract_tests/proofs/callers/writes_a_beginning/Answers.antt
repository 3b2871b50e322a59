use Rattle.sweep_bptree_contract_tests.proofs.Ends.{begun}
use Rattle.sweep_bptree_contract_tests.proofs.callers.writes_a_beginning.Goals as goal

pub returns : goal.returns
returns g c = begun c.serve.result _ _ _ _ c.serve.ensures.io c.serve.ensures.out_of_memory

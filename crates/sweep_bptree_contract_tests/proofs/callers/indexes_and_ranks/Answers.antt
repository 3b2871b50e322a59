use Rattle.sweep_bptree_contract_tests.proofs.Ends.{returned}
use Rattle.sweep_bptree_contract_tests.proofs.Inputs.{indexes_and_ranks_text}
use Rattle.sweep_bptree_contract_tests.proofs.callers.indexes_and_ranks.Goals as goal

pub returns : goal.returns
returns g c = returned c.serve.result _ _ _ _ _ c.requires indexes_and_ranks_text c.serve.ensures.known

use Rattle.sweep_bptree_contract_tests.proofs.Ends.{returned}
use Rattle.sweep_bptree_contract_tests.proofs.Inputs.{neighbours_and_back_text}
use Rattle.sweep_bptree_contract_tests.proofs.callers.neighbours_and_back.Goals as goal

pub returns : goal.returns
returns g c = returned c.serve.result _ _ _ _ _ c.requires neighbours_and_back_text c.serve.ensures.known

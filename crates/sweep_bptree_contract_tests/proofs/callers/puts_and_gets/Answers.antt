use Rattle.sweep_bptree_contract_tests.proofs.Ends.{returned}
use Rattle.sweep_bptree_contract_tests.proofs.Inputs.{puts_and_gets_text}
use Rattle.sweep_bptree_contract_tests.proofs.callers.puts_and_gets.Goals as goal

pub returns : goal.returns
returns g c = returned c.serve.result _ _ _ _ _ c.requires puts_and_gets_text c.serve.ensures.known

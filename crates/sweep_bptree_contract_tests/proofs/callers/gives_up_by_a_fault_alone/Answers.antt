use Rattle.sweep_bptree_contract_tests.proofs.Ends.{fault}
use Rattle.sweep_bptree_contract_tests.proofs.callers.gives_up_by_a_fault_alone.Goals as goal

pub returns : goal.returns
returns g c = λ is. fault _ _ _ _ c.requires.short c.requires.known (c.serve.ensures.io is)

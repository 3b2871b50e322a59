use Rattle.bptree_contract_tests.proofs.SetLemmas.{upper_there}
use Rattle.bptree_contract_tests.proofs.callers.sets.bounds_a_difference.Goals as goal

pub returns-clause-upper : goal.returns-clause-upper
returns-clause-upper g c = rw c.unwrap_or.ensures (upper_there _ _ c.size_hint-low.ensures.upper c.size_hint-low.ensures.bounded)

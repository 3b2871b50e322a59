use Rattle.bptree_contract_tests.proofs.SetLemmas.{upper_there}
use Rattle.bptree_contract_tests.proofs.callers.sets.bounds_an_intersection.Goals as goal

pub returns : goal.returns
returns g c = rw c.unwrap_or.ensures (upper_there _ _ c.size_hint.ensures.upper c.size_hint.ensures.bounded)

use Rattle.bptree_contract_tests.proofs.ReplacedLemmas.{stores}
use Rattle.bptree_contract_tests.proofs.callers.replacing.stores_a_key_of_a_map.Goals as goal

pub returns-in-Ok-clause-stored : goal.returns-in-Ok-clause-stored
returns-in-Ok-clause-stored g c true' = stores g.K.Ord.cmp c.args.k c.in-Ok.field-0 c.args.map.now c.replace_key.new.self c.in-Ok.ensures.ok g.met.K.Ord.total c.recall.ensures.ascending

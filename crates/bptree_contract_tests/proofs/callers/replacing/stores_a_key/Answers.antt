use Rattle.bptree_contract_tests.proofs.ReplacedLemmas.{stores}
use Rattle.bptree_contract_tests.proofs.callers.replacing.stores_a_key.Goals as goal

pub returns-in-Ok-clause-stored : goal.returns-in-Ok-clause-stored
returns-in-Ok-clause-stored g c true' = stores g.S.K.Ord.cmp c.args.k c.in-Ok.field-0 c.args.tree.now.contents c.replace_key.new.self.contents c.in-Ok.ensures.ok g.met.S.K.Ord.total c.recall.ensures.ascending

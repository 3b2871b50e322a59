use Rattle.std.proofs.Common.{◌∙◌}
use Rattle.bptree_contract_tests.proofs.EntryLemmas.{placed_nowhere, placed_there}
use Rattle.bptree_contract_tests.proofs.callers.maps.finds_a_key_at_its_index.Goals as goal

pub returns-in-Some : goal.returns-in-Some
returns-in-Some g c = c.get_index.ensures ∙ placed_there g.K.Ord.cmp c.args.k.now g.met.K.Ord.total c.args.map.now c.recall.ensures.ascending c.in-Some.index (rw c.in-Some.is at c.get_index_of.ensures)

pub returns-in-None : goal.returns-in-None
returns-in-None g c = placed_nowhere g.K.Ord.cmp c.args.k.now c.args.map.now (rw c.in-None.is at c.get_index_of.ensures)

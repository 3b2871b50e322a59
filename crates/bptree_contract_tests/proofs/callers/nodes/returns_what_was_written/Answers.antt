use Rattle.std.proofs.Common.{◌∙◌, sym}
use Rattle.bptree_contract_tests.proofs.callers.nodes.returns_what_was_written.Goals as goal

-- The nodes have the list, and the value was written into the list.
pub returns : goal.returns
returns g c = λ there. sym c.node_store.ensures.contents ∙ c.writes-there.ensures.put there

use Rattle.sweep_bptree_contract_tests.proofs.callers.leaves_its_list_in_the_nodes.Goals as goal

-- The nodes have the list that the run ends with.
pub returns : goal.returns
returns g c = rw c.node_store.ensures.contents at c.run-returned.ensures.run

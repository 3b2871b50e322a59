use Rattle.bptree_contract_tests.proofs.EntryLemmas.{found_key, found_index}
use Rattle.bptree_contract_tests.proofs.callers.maps.finds_the_pair_of_a_key.Goals as goal

pub returns-clause-key : goal.returns-clause-key
returns-clause-key g c = found_key g.K.Ord.cmp c.args.k.now c.args.map.now c.get_key_value.result c.get_key_value.ensures

pub returns-clause-stored : goal.returns-clause-stored
returns-clause-stored g c = found_index g.K.Ord.cmp c.args.k.now c.args.map.now c.get_key_value.result c.get_key_value.ensures

use Rattle.bptree_tree.proofs.Cloned.{has_alike}
use Rattle.bptree_contract_tests.proofs.callers.maps.has_the_same_keys.Goals as goal

pub returns-clause-keys : goal.returns-clause-keys
returns-clause-keys g c = has_alike g.met.K.Ord.total g.V.Clone.is_clone c.args.map.now c.in_ok-copy.copy c.in_ok-copy.ensures

use Rattle.bptree_contract_tests.proofs.SetLemmas.{found_equal, found_own, found_if_held}
use Rattle.bptree_contract_tests.proofs.callers.sets.finds_the_stored_key.Goals as goal

pub returns-clause-there : goal.returns-clause-there
returns-clause-there g c = found_if_held g.K.Ord.cmp c.args.set.now c.args.k.now c.get.result c.get.ensures

pub returns-clause-own : goal.returns-clause-own
returns-clause-own g c = found_own g.K.Ord.cmp c.args.set.now c.args.k.now c.get.result c.get.ensures

pub returns-clause-equal : goal.returns-clause-equal
returns-clause-equal g c = found_equal g.K.Ord.cmp c.args.set.now c.args.k.now c.get.result c.get.ensures

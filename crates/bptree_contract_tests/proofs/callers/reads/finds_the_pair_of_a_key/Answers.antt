use Rattle.bptree_contract_tests.proofs.EntryLemmas.{found_key, found_value}
use Rattle.bptree_contract_tests.proofs.callers.reads.finds_the_pair_of_a_key.Goals as goal

pub returns-clause-key : goal.returns-clause-key
returns-clause-key g c = found_key g.S.K.Ord.cmp c.args.k.now c.args.tree.now.contents c.get_key_value.result c.get_key_value.ensures

pub returns-clause-value : goal.returns-clause-value
returns-clause-value g c = found_value g.S.K.Ord.cmp c.args.k.now c.args.tree.now.contents c.get_key_value.result c.get_key_value.ensures

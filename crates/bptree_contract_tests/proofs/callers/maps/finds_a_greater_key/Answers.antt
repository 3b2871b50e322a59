use Rattle.std.proofs.Common.{Some, refl}
use Rattle.bptree_contract_tests.proofs.EntryLemmas.{greater_key}
use Rattle.bptree_contract_tests.proofs.callers.maps.finds_a_greater_key.Goals as goal

pub returns-in-Some : goal.returns-in-Some
returns-in-Some g c = greater_key g.K.Ord.cmp c.args.k.now g.met.K.Ord.total _ (Some c.in-Some.cursor) c.args.map.now refl (rw c.in-Some.is at c.in_ok-cursor.ensures.cursor)

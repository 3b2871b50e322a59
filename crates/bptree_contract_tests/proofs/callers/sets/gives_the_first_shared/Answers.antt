use Rattle.std.proofs.Common.{ap}
use Rattle.std.specs.Bool.{IsTrue}
use Rattle.std.specs.Map.Iter.{deref}
use Rattle.bptree_map.specs.Keys.{holds, keys_within}
use Rattle.bptree_contract_tests.proofs.Passing.{taken_passes}
use Rattle.bptree_contract_tests.proofs.SetLemmas.{taken_own}
use Rattle.bptree_contract_tests.proofs.callers.sets.gives_the_first_shared.Goals as goal

pub returns-clause-shared : goal.returns-clause-shared
returns-clause-shared g c =
    taken_passes deref (λ key. holds g.K.Ord.cmp c.args.second.now key) (λ key. IsTrue (holds g.K.Ord.cmp c.args.second.now key)) (λ key e. e)
    _ _ c.args.first.now c.next.result c.next.ensures.steps (ap (λ both. keys_within g.K.Ord.cmp both.0 both.1) c.intersection.ensures.rest)

pub returns-clause-own : goal.returns-clause-own
returns-clause-own g c =
    taken_own deref (λ key. holds g.K.Ord.cmp c.args.second.now key) _ _ c.args.first.now c.next.result c.next.ensures.steps (ap (λ both. keys_within g.K.Ord.cmp both.0 both.1) c.intersection.ensures.rest)

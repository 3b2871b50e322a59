use Rattle.std.proofs.Common.{arith}
use Rattle.std.proofs.lemmas.Result.{IfOk-weaker}
use Rattle.bptree_contract_tests.proofs.GatheredPuts.{gathered_few, held_if_cloned}
use Rattle.bptree_contract_tests.proofs.callers.moves.puts_keys_of_a_slice.Goals as goal

pub returns-clause-held : goal.returns-clause-held
returns-clause-held g c =
    IfOk-weaker c.extend_from_slice.result _ _
    (λ _ is. held_if_cloned g.met.K.Ord.total g.K.Clone.is_clone g.met.K.Key.clone_is_equal _ _ _ c.recall.ensures.ascending is) c.extend_from_slice.ensures.ok

pub returns-clause-full : goal.returns-clause-full
returns-clause-full g c = λ is. omega (arith, c.extend_from_slice.ensures.full is, gathered_few g.met.K.Ord.total c.args.keys.now)

use Rattle.std.proofs.Common.{arith}
use Rattle.std.proofs.lemmas.Result.{IfOk-weaker}
use Rattle.bptree_contract_tests.proofs.GatheredPuts.{gathered_few, held_if_came}
use Rattle.bptree_contract_tests.proofs.callers.moves.puts_keys_of_a_vector.Goals as goal

pub returns-clause-held : goal.returns-clause-held
returns-clause-held g c = IfOk-weaker c.extend_from_vec.result _ _ (λ _ is. held_if_came g.met.K.Ord.total _ _ _ c.recall.ensures.ascending is) c.extend_from_vec.ensures.ok

pub returns-clause-full : goal.returns-clause-full
returns-clause-full g c = λ is. omega (arith, c.extend_from_vec.ensures.full is, gathered_few g.met.K.Ord.total c.args.keys.items)

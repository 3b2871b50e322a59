use Rattle.std.proofs.Common.{arith}
use Rattle.std.proofs.lemmas.Result.{IfOk-weaker}
use Rattle.bptree_contract_tests.proofs.GatheredPuts.{gather_few, last_stays, others_stay}
use Rattle.bptree_contract_tests.proofs.callers.moves.puts_a_vector.Goals as goal

pub returns-clause-last : goal.returns-clause-last
returns-clause-last g c = IfOk-weaker c.extend_from_vec.result _ _ (λ _ is. last_stays g.met.K.Ord.total _ _ _ c.recall.ensures.ascending is) c.extend_from_vec.ensures.ok

pub returns-clause-others : goal.returns-clause-others
returns-clause-others g c = IfOk-weaker c.extend_from_vec.result _ _ (λ _ is. others_stay g.met.K.Ord.total _ _ _ c.recall.ensures.ascending is) c.extend_from_vec.ensures.ok

pub returns-clause-full : goal.returns-clause-full
returns-clause-full g c = λ is. omega (arith, c.extend_from_vec.ensures.full is, gather_few g.met.K.Ord.total c.args.pairs.items)

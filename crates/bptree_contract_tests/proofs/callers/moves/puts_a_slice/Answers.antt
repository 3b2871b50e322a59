use Rattle.std.proofs.Common.{arith}
use Rattle.std.proofs.lemmas.Result.{IfOk-weaker}
use Rattle.bptree_contract_tests.proofs.GatheredPuts.{clone_of_last_stays, clones_leave_others, gather_few}
use Rattle.bptree_contract_tests.proofs.callers.moves.puts_a_slice.Goals as goal

pub returns-clause-last : goal.returns-clause-last
returns-clause-last g c =
    IfOk-weaker c.extend_from_slice.result _ _
    (λ _ is. clone_of_last_stays g.met.K.Ord.total g.K.Clone.is_clone g.met.K.Key.clone_is_equal g.V.Clone.is_clone _ _ _ c.recall.ensures.ascending is) c.extend_from_slice.ensures.ok

pub returns-clause-others : goal.returns-clause-others
returns-clause-others g c =
    IfOk-weaker c.extend_from_slice.result _ _
    (λ _ is. clones_leave_others g.met.K.Ord.total g.K.Clone.is_clone g.met.K.Key.clone_is_equal g.V.Clone.is_clone _ _ _ c.recall.ensures.ascending is) c.extend_from_slice.ensures.ok

pub returns-clause-full : goal.returns-clause-full
returns-clause-full g c = λ is. omega (arith, c.extend_from_slice.ensures.full is, gather_few g.met.K.Ord.total c.args.pairs.now)

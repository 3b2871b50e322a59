use Rattle.std.proofs.Common.{◌≡◌}
use Rattle.std.proofs.lemmas.Result.{IfOk-weaker}
use Rattle.bptree_contract_tests.proofs.GatheredPuts.{clone_of_last_stays, clones_leave_others}
use Rattle.bptree_contract_tests.proofs.callers.many.inserts_columns.Goals as goal

pub returns-clause-last : goal.returns-clause-last
returns-clause-last g c =
    IfOk-weaker c.insert_many.result _ _
    (λ _ is. clone_of_last_stays g.met.K.Ord.total g.K.Clone.is_clone g.met.K.Key.clone_is_equal (λ v w. w ≡ v) _ _ _ c.recall.ensures.ascending is) c.insert_many.ensures.ok

pub returns-clause-others : goal.returns-clause-others
returns-clause-others g c =
    IfOk-weaker c.insert_many.result _ _
    (λ _ is. clones_leave_others g.met.K.Ord.total g.K.Clone.is_clone g.met.K.Key.clone_is_equal (λ v w. w ≡ v) _ _ _ c.recall.ensures.ascending is) c.insert_many.ensures.ok

use Rattle.std.proofs.lemmas.Result.{IfOk-weaker}
use Rattle.bptree_contract_tests.proofs.callers.removals.sums_up_what_is_left.Goals as goal

-- The keys that are left are those of the contents.
pub returns : goal.returns
returns g c = IfOk-weaker c.remove.result _ _ (λ gone ok. rw ok.1 at c.remove.ensures.whole.summary) c.remove.ensures.ok

use Rattle.std.proofs.Common.{arith}
use Rattle.std.proofs.lemmas.Iterator.Adapters.{YieldsList-from_vec}
use Rattle.std.proofs.lemmas.Result.{IfOk-weaker}
use Rattle.bptree_contract_tests.proofs.ExtendLemmas.{held_or_came, key_absent_before, of_both}
use Rattle.bptree_contract_tests.proofs.callers.moves.holds_what_came.Goals as goal

pub returns-clause-held : goal.returns-clause-held
returns-clause-held g c = IfOk-weaker c.extend.result _ _ (λ _ (it, gives, put). held_or_came g.met.K.Ord.total c.args.keys.items _ _ (YieldsList-from_vec c.args.keys.items gives.0 (omega (arith, gives.1))) c.recall.ensures.ascending put) c.extend.ensures.ok

pub returns-clause-failed : goal.returns-clause-failed
returns-clause-failed g c = of_both c.extend.result _ _ _ (λ e (it, becomes, came) failed. key_absent_before g.met.K.Ord.total _ _ _ came.0 e c.recall.ensures.ascending came.3 failed) c.extend.ensures.err c.extend.ensures.kind

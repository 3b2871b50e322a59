use Rattle.std.proofs.Common.{arith}
use Rattle.std.proofs.lemmas.Iterator.Adapters.{YieldsList-from_vec}
use Rattle.std.proofs.lemmas.Result.{IfOk-weaker}
use Rattle.bptree_contract_tests.proofs.ExtendLemmas.{absent_before, kept_beside, last_of_all, of_both}
use Rattle.bptree_contract_tests.proofs.callers.moves.puts_the_last_of_each_key.Goals as goal

pub returns-clause-last : goal.returns-clause-last
returns-clause-last g c = IfOk-weaker c.extend.result _ _ (λ _ (it, gives, put). last_of_all g.met.K.Ord.total c.args.pairs.items _ _ (YieldsList-from_vec c.args.pairs.items gives.0 (omega (arith, gives.1))) c.recall.ensures.ascending put) c.extend.ensures.ok

pub returns-clause-others : goal.returns-clause-others
returns-clause-others g c = IfOk-weaker c.extend.result _ _ (λ _ (it, gives, put). kept_beside g.met.K.Ord.total c.args.pairs.items _ _ (YieldsList-from_vec c.args.pairs.items gives.0 (omega (arith, gives.1))) c.recall.ensures.ascending put) c.extend.ensures.ok

pub returns-clause-failed : goal.returns-clause-failed
returns-clause-failed g c = of_both c.extend.result _ _ _ (λ e (it, becomes, came) failed. absent_before g.met.K.Ord.total _ _ _ came.0 e c.recall.ensures.ascending came.3 failed) c.extend.ensures.err c.extend.ensures.kind

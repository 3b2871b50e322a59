use Rattle.std.proofs.Common.{rules}
use Rattle.std.proofs.lemmas.Fn.{filter_same}
use Rattle.std.proofs.lemmas.Result.{on_ok_weaker, IfErr-weaker}
use Rattle.bptree_contract_tests.proofs.RetainedLemmas.{keys_failed}
use Rattle.bptree_contract_tests.proofs.callers.thinned.loses_zero.Goals as goal

pub returns-clause-ok : goal.returns-clause-ok
returns-clause-ok c = on_ok_weaker c.retain.result (filter_same _ _ _ (λ x b f' k. search rules) _ _) c.retain.ensures.ok

pub returns-clause-err : goal.returns-clause-err
returns-clause-err c = IfErr-weaker c.retain.result _ _ (λ e. keys_failed _ _ c.args.set.now c.retain.new.self _ e (λ l. filter_same _ _ _ (λ x b f' k. search rules) _ l)) c.retain.ensures.err

use Rattle.std.proofs.Common.{◌∙◌, ap}
use Rattle.std.proofs.lemmas.Result.{IfOk-weaker}
use Rattle.bptree_keys.specs.Contents.{value}
use Rattle.bptree_map.proofs.AddingLemmas.{value_of_new}
use Rattle.bptree_contract_tests.proofs.callers.updates.begins_at.Goals as goal

pub returns-clause-begins : goal.returns-clause-begins
returns-clause-begins g c = λ absent. IfOk-weaker c.upsert_with.result _ _ (λ added put. ap (λ l. value g.K.Ord.cmp l c.args.k) put.1 ∙ value_of_new g.met.K.Ord.total c.args.k 1 c.args.map.now absent) (c.upsert_with.ensures.absent absent)

use Rattle.std.proofs.Common.{◌∙◌, Some, ap}
use Rattle.std.proofs.lemmas.Result.{IfOk-weaker}
use Rattle.bptree_map.specs.Keys.{holds, keys_between}
use Rattle.bptree_contract_tests.proofs.ThinLemmas.{end_key_stays, no_key_between}
use Rattle.bptree_contract_tests.proofs.callers.thinned.empties_a_part_of_a_set.Goals as goal

pub returns-clause-between : goal.returns-clause-between
returns-clause-between g c = IfOk-weaker c.remove_range.result _ _ (λ n is. ap (λ l. keys_between g.K.Ord.cmp l (Some c.args.lo.now) (Some c.args.hi.now)) is ∙ no_key_between g.K.Ord.cmp c.args.set.now c.args.lo.now c.args.hi.now) c.remove_range.ensures.rest

pub returns-clause-end : goal.returns-clause-end
returns-clause-end g c = IfOk-weaker c.remove_range.result _ _ (λ n is. ap (λ l. holds g.K.Ord.cmp l c.args.hi.now) is ∙ end_key_stays g.K.Ord.cmp c.args.set.now c.args.lo.now c.args.hi.now) c.remove_range.ensures.rest

use Rattle.std.proofs.Common.{◌∙◌, ap}
use Rattle.std.proofs.lemmas.Result.{IfOk-weaker}
use Rattle.bptree_keys.specs.Contents.{has}
use Rattle.bptree_contract_tests.proofs.SplitAtKey.{gone_below, stays_above}
use Rattle.bptree_contract_tests.proofs.callers.moves.splits_at_a_key.Goals as goal

pub returns-clause-here : goal.returns-clause-here
returns-clause-here g c = IfOk-weaker c.split_off.result _ _ (λ there parts. ap (λ l. has g.K.Ord.cmp l c.args.k.now) parts.0 ∙ gone_below g.K.Ord.cmp c.args.k.now c.args.map.now) c.split_off.ensures.ok

pub returns-clause-there : goal.returns-clause-there
returns-clause-there g c = IfOk-weaker c.split_off.result _ _ (λ there parts. ap (λ l. has g.K.Ord.cmp l c.args.k.now) parts.1 ∙ stays_above g.K.Ord.cmp c.args.k.now c.args.map.now) c.split_off.ensures.ok

use Rattle.std.proofs.Common.{◌∙◌, ap}
use Rattle.std.proofs.lemmas.Result.{IfOk-weaker}
use Rattle.bptree_map.specs.Keys.{holds}
use Rattle.bptree_contract_tests.proofs.SplitAtKey.{key_gone_below, key_stays_above}
use Rattle.bptree_contract_tests.proofs.callers.moves.splits_a_set_at_a_key.Goals as goal

pub returns-clause-here : goal.returns-clause-here
returns-clause-here g c = IfOk-weaker c.split_off.result _ _ (λ there parts. ap (λ l. holds g.K.Ord.cmp l c.args.k.now) parts.0 ∙ key_gone_below g.K.Ord.cmp c.args.k.now c.args.set.now) c.split_off.ensures.ok

pub returns-clause-there : goal.returns-clause-there
returns-clause-there g c = IfOk-weaker c.split_off.result _ _ (λ there parts. ap (λ l. holds g.K.Ord.cmp l c.args.k.now) parts.1 ∙ key_stays_above g.K.Ord.cmp c.args.k.now c.args.set.now) c.split_off.ensures.ok

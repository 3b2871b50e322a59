use Rattle.std.proofs.Common.{◌∙◌, ap}
use Rattle.bptree_contract_tests.proofs.UpdateLemmas.{all_become}
use Rattle.bptree_contract_tests.proofs.callers.updates.clears_all_values.Goals as goal

pub returns : goal.returns
returns g c =
    all_become _ 0 (λ f pair after left call. call.leaves ∙ ap (λ v. (pair.0, v)) call.called.met.said-raw.1.1.1)
    _ c.args.map.now c.update_each.ensures.0 c.update_each.new.self c.update_each.ensures.1

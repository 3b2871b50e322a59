use Rattle.std.proofs.Common.{◌≡◌, ◌++◌, ◌∷◌, [], nat_cmp, ap, ◌∙◌}
use Rattle.std.proofs.lemmas.Result.{IfOk-weaker}
use Rattle.bptree_arguments.specs.CountLaws.{SelectsIndex, count_below}
use Rattle.bptree_keys.specs.declared.end.End.TheVariants.{Front}
use Rattle.sweep_bptree_contract_tests.proofs.Replies.{first_ranged}
use Rattle.sweep_bptree_contract_tests.proofs.callers.first_from.Goals as goal

pub returns-in-Walked : goal.returns-in-Walked
returns-in-Walked c =
    let word = c.in_ok-push.ensures.items ∙ ap (λ ends. ends ++ Front ∷ []) c.new-word.ensures.items in
    let step = c.in_ok-outcomes.ensures.1.0 in
    IfOk-weaker c.one_of.result _ _ (λ outcome gave. first_ranged SelectsIndex (λ key keys n. n ≡ count_below nat_cmp key keys) _ _ c.args.lo c.push.new.self c.in_ok-outcomes.field-0 c.in-Walked.outcomes gave.0 outcome word c.in-Walked.is step gave.1) c.one_of.ensures

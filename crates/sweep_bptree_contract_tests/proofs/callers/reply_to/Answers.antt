use Rattle.std.proofs.Common.{arith, ◌++◌, ◌∷◌, [], ap, ◌∙◌}
use Rattle.sweep_bptree_contract_tests.proofs.Runs.{all_failed, one_ran}
use Rattle.sweep_bptree_contract_tests.proofs.callers.reply_to.Goals as goal

pub returns-in-Some : goal.returns-in-Some
returns-in-Some g c =
    one_ran g.S.K.Ord.cmp g.S.Argument.SearchArgument.selects g.S.Argument.RankArgument.ranks c.args.tree.now.contents c.run-replies.new.tree.contents c.run-replies.result.1 c.args.command _ _ c.pop.new.self.items c.in-Some.reply
    (c.in_ok-push.ensures.items ∙ ap (λ xs. xs ++ c.args.command ∷ []) c.new-commands.ensures.items) c.in-Some.ensures.items c.run-replies.ensures.run
    (λ is. let h = c.run-replies.ensures.unchanged is in (h.0, ap (λ t. t.contents) h.1))

pub returns : goal.returns
returns g c =
    all_failed c.run-replies.result.1 c.run-replies.result.0.items _ _ c.run-replies.result.0.ok.0 c.in-None.ensures.cases.0 (omega (arith, c.in_ok-push.ensures.len)) c.run-replies.ensures.all c.run-replies.ensures.unchanged

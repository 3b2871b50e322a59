use Rattle.std.proofs.Common.{ap, sym, ◌∙◌}
use Rattle.sweep_bptree_contract_tests.proofs.Runs.{all_or_none, nothing_ran}
use Rattle.sweep_bptree_contract_tests.proofs.callers.runs_all_or_none.Goals as goal

pub returns-clause-number : goal.returns-clause-number
returns-clause-number g c = rw c.len.ensures (all_or_none c.run.result.1 c.run.result.0.items _ _ c.run.result.0.ok.0 c.run.ensures.all c.run.ensures.unchanged)

pub returns-clause-stays : goal.returns-clause-stays
returns-clause-stays g c = λ none. nothing_ran g.S.K.Ord.cmp g.S.Argument.SearchArgument.selects g.S.Argument.RankArgument.ranks c.args.tree.now.contents c.run.new.tree.contents c.run.result.1 _ c.run.result.0.items (sym c.run.result.0.ok.0 ∙ sym c.len.ensures ∙ none) c.run.ensures.run (λ is. let h = c.run.ensures.unchanged is in (h.0, ap (λ t. t.contents) h.1))

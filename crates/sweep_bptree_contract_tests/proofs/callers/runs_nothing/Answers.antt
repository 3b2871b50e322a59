use Rattle.std.proofs.Common.{ap, sym, ◌∙◌, refl}
use Rattle.std.specs.Prelude.{IsNone}
use Rattle.sweep_bptree_contract_tests.proofs.Runs.{none_failed, nothing_ran}
use Rattle.sweep_bptree_contract_tests.proofs.callers.runs_nothing.Goals as goal

pub returns-clause-well : goal.returns-clause-well
returns-clause-well g c = none_failed c.run.result.1 c.run.result.0.items _ _ c.run.result.0.ok.0 c.new.ensures.len c.run.ensures.all c.run.ensures.unchanged

pub returns-clause-stays : goal.returns-clause-stays
returns-clause-stays g c =
    let well = none_failed c.run.result.1 c.run.result.0.items _ _ c.run.result.0.ok.0 c.new.ensures.len c.run.ensures.all c.run.ensures.unchanged in
    let is : IsNone c.run.result.1 = rw well refl in
    nothing_ran g.S.K.Ord.cmp g.S.Argument.SearchArgument.selects g.S.Argument.RankArgument.ranks c.args.tree.now.contents c.run.new.tree.contents c.run.result.1 _ c.run.result.0.items (sym c.run.result.0.ok.0 ∙ c.run.ensures.all.0 is ∙ c.new.ensures.len)
    c.run.ensures.run (λ is. let h = c.run.ensures.unchanged is in (h.0, ap (λ t. t.contents) h.1))

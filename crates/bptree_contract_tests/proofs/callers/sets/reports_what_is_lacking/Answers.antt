use Rattle.std.proofs.Common.{◌∙◌, sym}
use Rattle.bptree_contract_tests.proofs.SetLemmas.{no_subset}
use Rattle.bptree_contract_tests.proofs.callers.sets.reports_what_is_lacking.Goals as goal

pub returns-clause-lacking : goal.returns-clause-lacking
returns-clause-lacking g c =
    λ there absent. no_subset g.K.Ord.cmp c.is_subset.result c.args.few.now c.args.many.now c.is_subset.ensures.0 c.args.k.now (sym c.contains.ensures ∙ there) (sym c.contains-2.ensures ∙ absent)

pub returns-clause-none : goal.returns-clause-none
returns-clause-none g c = λ same. c.is_subset.ensures.1 (λ k there. rw same there)

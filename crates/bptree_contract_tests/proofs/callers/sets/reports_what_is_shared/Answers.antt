use Rattle.std.proofs.Common.{◌∙◌, refl, sym}
use Rattle.bptree_contract_tests.proofs.SetLemmas.{not_disjoint}
use Rattle.bptree_contract_tests.proofs.callers.sets.reports_what_is_shared.Goals as goal

pub returns-clause-shared : goal.returns-clause-shared
returns-clause-shared g c =
    λ there there_too. not_disjoint g.K.Ord.cmp c.is_disjoint.result c.args.first.now c.args.second.now c.is_disjoint.ensures.0 c.args.k.now (sym c.contains.ensures ∙ there) (sym c.contains-2.ensures ∙ there_too)

pub returns-clause-none : goal.returns-clause-none
returns-clause-none g c = λ none. c.is_disjoint.ensures.1 (λ k there. rw none refl)

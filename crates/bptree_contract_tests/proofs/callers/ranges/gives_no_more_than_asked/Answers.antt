use Rattle.std.proofs.Common.{sym, ◌∙◌}
use Rattle.bptree_contract_tests.proofs.PartLemmas.{none_allowed}
use Rattle.bptree_contract_tests.proofs.callers.ranges.gives_no_more_than_asked.Goals as goal

pub returns-clause-none : goal.returns-clause-none
returns-clause-none g c = λ some none. none_allowed g.S.Argument.SearchArgument.selects c.args.query c.args.tree.now.contents c.args.n _ some c.in_ok-range_by_argument.ensures.rest (sym c.len.ensures.value ∙ none)

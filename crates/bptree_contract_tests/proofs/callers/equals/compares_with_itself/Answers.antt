use Rattle.std.proofs.Common.{◌∙◌}
use Rattle.std.specs.Cmp.{on_total, then_total}
use Rattle.std.specs.Cmp.Lexicographic.{lists_total}
use Rattle.std.proofs.lemmas.Cmp.{tied_itself}
use Rattle.bptree_contract_tests.proofs.callers.equals.compares_with_itself.Goals as goal

pub returns : goal.returns
returns g c = c.cmp.ensures ∙ tied_itself (lists_total (then_total (on_total (λ p. p.0) g.met.K.Ord.total) (on_total (λ p. p.1) g.met.V.Ord.total))) c.args.map.now

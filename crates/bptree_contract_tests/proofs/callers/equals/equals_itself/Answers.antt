use Rattle.std.proofs.Common.{◌∙◌}
use Rattle.std.specs.Cmp.{and_equiv, on_equiv}
use Rattle.std.specs.Cmp.Lexicographic.{lists_equiv}
use Rattle.bptree_contract_tests.proofs.callers.equals.equals_itself.Goals as goal

pub returns : goal.returns
returns g c = c.eq.ensures ∙ (lists_equiv (and_equiv (on_equiv (λ p. p.0) g.met.K.Eq.laws) (on_equiv (λ p. p.1) g.met.V.Eq.laws))).refl c.args.map.now

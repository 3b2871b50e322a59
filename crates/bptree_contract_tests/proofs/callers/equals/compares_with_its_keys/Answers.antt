use Rattle.std.proofs.Common.{◌∙◌}
use Rattle.std.specs.Cmp.Lexicographic.{lists_total}
use Rattle.std.proofs.lemmas.Cmp.{tied_itself}
use Rattle.bptree_contract_tests.proofs.callers.equals.compares_with_its_keys.Goals as goal

pub returns : goal.returns
returns g c = c.cmp.ensures ∙ tied_itself (lists_total g.met.K.Ord.total) c.args.set.now

use Rattle.std.proofs.Common.{ap, sym, ◌∙◌}
use Rattle.bptree_protocol.specs.Number.{number_of}
use Rattle.bptree_protocol.proofs.Law.{number_of-decimal, number_of-some}
use Rattle.bptree_unit_tests.proofs.callers.requests.reads_a_number.Goals as goal

pub returns : goal.returns
returns c = record {
  there = λ value fits is. c.number.ensures ∙ ap number_of is ∙ number_of-decimal value fits;
  no_other = λ value is. (number_of-some c.args.word.now value (sym c.number.ensures ∙ is)).0;
}

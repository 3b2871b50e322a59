use Rattle.std.proofs.Common.{nat_cmp, sym, ap, ◌∙◌}
use Rattle.std.proofs.lemmas.Bool.{false≢true}
use Rattle.std.specs.Option.{is_some}
use Rattle.bptree_examples.proofs.EntryChanges.{has_by_value}
use Rattle.bptree_examples.proofs.uses.secondary_index.set_value.Goals as goal

pub returns-in_default-clause-there : goal.returns-in_default-clause-there
returns-in_default-clause-there c = sym (has_by_value nat_cmp c.args.row c.args.rows.now ∙ ap is_some (sym c.get.ensures ∙ sym c.copied.ensures ∙ c.in_default.is))

pub unreachable-requires : goal.unreachable-requires
unreachable-requires c = false≢true (c.in-Err.ensures.present (has_by_value nat_cmp c.args.row c.args.rows.now ∙ ap is_some (sym c.get.ensures ∙ sym c.copied.ensures ∙ c.in-Some.is)))

pub returns-clause-there : goal.returns-clause-there
returns-clause-there c = sym (has_by_value nat_cmp c.args.row c.args.rows.now ∙ ap is_some (sym c.get.ensures ∙ sym c.copied.ensures ∙ c.in-Some.is))

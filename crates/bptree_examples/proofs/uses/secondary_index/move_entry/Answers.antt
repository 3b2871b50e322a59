use Rattle.std.proofs.Common.{sym, ap, ◌∙◌}
use Rattle.std.specs.Option.{is_some}
use Rattle.bptree_examples.proofs.EntryChanges.{entry_order, entry_total, has_by_value, taken_back_or_kept}
use Rattle.bptree_examples.proofs.uses.secondary_index.move_entry.Goals as goal

pub returns-then-is_none-clause-unchanged : goal.returns-then-is_none-clause-unchanged
returns-then-is_none-clause-unchanged c =
    let ok = c.in-Ok.ensures.ok in
    let absent = has_by_value entry_order c.args.new c.args.index.now ∙ ap is_some (sym ok.0) ∙ c.if-is_none.ensures in
    taken_back_or_kept entry_order c.args.new entry_total c.args.index.now c.recall.ensures.ascending absent tt c.remove-then-is_none.result c.remove.new.self c.remove-then-is_none.new.self (c.in-Err-remove.ensures.unchanged ∙ ok.1) c.remove-then-is_none.ensures.ok c.remove-then-is_none.ensures.unchanged

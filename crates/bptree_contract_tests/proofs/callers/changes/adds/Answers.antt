use Rattle.std.proofs.Common.{refl, sym, ◌∙◌, true, Some}
use mathlib.Core.Bool.{true≢false}
use Rattle.bptree_tree.proofs.Counted.{has_was}
use Rattle.bptree_contract_tests.proofs.callers.changes.adds.Goals as goal

pub unreachable-requires : goal.unreachable-requires
unreachable-requires g c = true≢false (sym (has_was g.S.K.Ord.cmp c.args.tree.now.contents c.args.k (Some c.in-Ok-Some.field-0-0) true (rw c.in-Ok-Some.field-0-is at c.in-Ok-Some.ensures.ok.0) refl) ∙ c.requires)

use Rattle.std.proofs.Common.{refl, sym, ◌∙◌, false, None}
use mathlib.Core.Bool.{true≢false}
use Rattle.bptree_tree.proofs.Counted.{has_was}
use Rattle.bptree_contract_tests.proofs.callers.changes.replaces.Goals as goal

pub unreachable-requires : goal.unreachable-requires
unreachable-requires g c = true≢false (sym c.requires ∙ has_was g.S.K.Ord.cmp c.args.tree.now.contents c.args.k None false (rw c.in-Ok-None.field-0-is at c.in-Ok-None.ensures.ok.0) refl)

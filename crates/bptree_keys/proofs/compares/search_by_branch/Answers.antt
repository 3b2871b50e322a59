use Rattle.std.proofs.Common.{◌+◌, ap, sym, arith, ◌∙◌}
use Rattle.std.specs.Ordering.{is_le}
use Rattle.bptree_keys.proofs.Steps.{window_past, window_before}
use Rattle.bptree_keys.proofs.compares.search_by_branch.Goals as goal

pub search_beside-requires-clause-among : goal.search_beside-requires-clause-among
search_beside-requires-clause-among g c =
    window_past (λ (y : g.row.K.Denot). g.K.Ord.cmp y c.args.key.now) c.args.keys.now c.args.base (c.args.step + 16) c.args.step 16 c.index-keys-base.result (omega (arith, c.requires.within)) c.index-keys-base.is (ap is_le (sym c.compare.ensures.order) ∙ sym c.if-is_le.ensures) (omega arith) c.requires.among

pub search_beside-requires-else-is_le-clause-among : goal.search_beside-requires-else-is_le-clause-among
search_beside-requires-else-is_le-clause-among g c =
    window_before (λ (y : g.row.K.Denot). g.K.Ord.cmp y c.args.key.now) c.args.keys.now c.args.base (c.args.step + 16) c.args.step 16 c.index-keys-base.result (omega (arith, c.requires.within)) c.index-keys-base.is (ap is_le (sym c.compare.ensures.order) ∙ sym c.if-is_le.ensures) c.requires.step c.requires.among

pub returns-then-is_le-clause-count : goal.returns-then-is_le-clause-count
returns-then-is_le-clause-count g c = omega (arith, c.search_beside.ensures.count 4 (omega arith), c.compare.ensures.count)

pub returns-else-is_le-clause-count : goal.returns-else-is_le-clause-count
returns-else-is_le-clause-count g c = omega (arith, c.search_beside-else-is_le.ensures.count 4 (omega arith), c.compare.ensures.count)

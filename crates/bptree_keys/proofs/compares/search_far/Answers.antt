use Rattle.std.proofs.Common.{◌+◌, ◌-◌, ap, sym, length, arith, ◌∙◌}
use Rattle.std.specs.Ordering.{is_le}
use Rattle.bptree_keys.proofs.Steps.{among_first, among_last}
use Rattle.bptree_keys.proofs.compares.search_far.Goals as goal

pub search_by_branch-requires-clause-among : goal.search_by_branch-requires-clause-among
search_by_branch-requires-clause-among g c =
    let rest = c.saturating_sub-rest.result in
    let least = c.saturating_sub-rest.ensures in
    among_last (λ (y : g.row.K.Denot). g.K.Ord.cmp y c.args.key.now) c.args.keys.now rest (length c.args.keys.now - rest - 16 + 16) c.index-keys-rest.result (omega (arith, least)) c.index-keys-rest.is (ap is_le (sym c.compare.ensures.order) ∙ sym c.if-is_le.ensures) (omega (arith, least))

pub search_by_branch-requires-else-is_le-clause-among : goal.search_by_branch-requires-else-is_le-clause-among
search_by_branch-requires-else-is_le-clause-among g c =
    let rest = c.saturating_sub-rest.result in
    let least = c.saturating_sub-rest.ensures in
    among_first (λ (y : g.row.K.Denot). g.K.Ord.cmp y c.args.key.now) c.args.keys.now rest (length c.args.keys.now - rest - 16 + 16) c.index-keys-rest.result (omega (arith, least)) c.index-keys-rest.is (ap is_le (sym c.compare.ensures.order) ∙ sym c.if-is_le.ensures) (omega (arith, c.requires, least))

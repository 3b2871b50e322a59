use Rattle.std.proofs.Common.{◌+◌, ◌-◌, length, arith}
use Rattle.bptree_keys.proofs.Steps.{among_ends}
use Rattle.bptree_keys.proofs.compares.search_many.Goals as goal

pub search_later-requires-clause-among : goal.search_later-requires-clause-among
search_later-requires-clause-among g c =
    let rest = c.saturating_sub-rest.result in
    let least = c.saturating_sub-rest.ensures in
    among_ends (λ (y : g.row.K.Denot). g.K.Ord.cmp y c.args.key.now) c.args.keys.now rest (length c.args.keys.now - rest - 16 + 16) c.from.result c.index-keys-rest.result c.compare.result c.is_le-is_past.result (omega (arith, c.requires, least)) c.index-keys-rest.is c.compare.ensures.order c.is_le-is_past.ensures c.from.ensures (omega (arith, c.requires, least)) (omega (arith, c.requires, least))

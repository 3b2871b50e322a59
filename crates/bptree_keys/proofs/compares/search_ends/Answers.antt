use Rattle.std.proofs.Common.{◌-◌, length, arith}
use Rattle.bptree_keys.proofs.Steps.{among_ends}
use Rattle.bptree_keys.proofs.compares.search_ends.Goals as goal

pub search_among-requires-clause-among : goal.search_among-requires-clause-among
search_among-requires-clause-among g c =
    among_ends (λ (y : g.row.K.Denot). g.K.Ord.cmp y c.args.key.now) c.args.keys.now (length c.args.keys.now - c.args.width) c.args.width c.from.result c.index-keys-rest.result c.compare.result c.is_le-is_past.result (omega (arith, c.requires.within)) c.index-keys-rest.is c.compare.ensures.order c.is_le-is_past.ensures c.from.ensures (omega (arith, c.requires.within)) (omega (arith, c.requires.within))

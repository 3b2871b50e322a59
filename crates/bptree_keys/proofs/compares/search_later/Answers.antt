use Rattle.std.proofs.Common.{◌+◌, ◌*◌, refl, arith}
use Rattle.bptree_keys.proofs.Steps.{window_then}
use Rattle.bptree_keys.proofs.compares.search_later.Goals as goal

pub search_among-requires-clause-among : goal.search_among-requires-clause-among
search_among-requires-clause-among g c =
    (window_then (λ (y : g.row.K.Denot). g.K.Ord.cmp y c.args.key.now) c.args.keys.now c.args.base (c.args.base + c.from.result * c.args.step) c.args.step (c.args.step + 16) 16 c.from.result c.index-keys-base.result c.compare.result c.is_le-is_past.result (omega (arith, c.requires.within)) c.index-keys-base.is c.compare.ensures.order c.is_le-is_past.ensures c.from.ensures refl (omega arith) c.requires.step c.requires.among).1

pub returns-clause-count : goal.returns-clause-count
returns-clause-count g c = omega (arith, c.search_among.ensures.count 4 (omega arith), c.compare.ensures.count)

use Rattle.std.proofs.Common.{sym, arith, ◌∙◌}
use Rattle.bptree_keys.proofs.Steps.{window_end}
use Rattle.bptree_keys.proofs.compares.search_among.Goals as goal

pub returns-else-is_eq-clause-position : goal.returns-else-is_eq-clause-position
returns-else-is_eq-clause-position g c =
    window_end (λ (y : g.row.K.Denot). g.K.Ord.cmp y c.args.key.now) c.args.keys.now c.halved-first.result 1 c.from.result c.index-keys-first.result c.compare-ordering.result c.is_eq.result c.is_lt.result (omega arith) (omega (arith, c.halved-first.ensures.within)) c.index-keys-first.is c.compare-ordering.ensures.order c.is_eq.ensures (c.is_eq.ensures ∙ sym c.if-is_eq.ensures) c.is_lt.ensures c.from.ensures c.halved-first.ensures.among

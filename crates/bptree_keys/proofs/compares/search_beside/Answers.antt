use Rattle.std.proofs.Common.{arith}
use Rattle.bptree_keys.proofs.Steps.{window_two}
use Rattle.bptree_keys.proofs.compares.search_beside.Goals as goal

pub returns-else-past-slot-clause-position : goal.returns-else-past-slot-clause-position
returns-else-past-slot-clause-position g c =
    window_two (λ (y : g.row.K.Denot). g.K.Ord.cmp y c.args.key.now) c.args.keys.now c.halved-first.result 2 c.from.result c.from-2.result c.from-3.result c.from-4.result c.index-keys-first.result c.index-keys-first-2.result c.compare-lower.result c.compare-upper.result (omega arith) (omega (arith, c.halved-first.ensures.within)) c.index-keys-first.is c.index-keys-first-2.is c.compare-lower.ensures.order c.compare-upper.ensures.order (rw c.is_lt.ensures at c.from.ensures) (rw c.is_lt-2.ensures at c.from-2.ensures) (rw c.is_le.ensures at c.from-3.ensures) (rw c.is_le-2.ensures at c.from-4.ensures) (omega arith) c.halved-first.ensures.among

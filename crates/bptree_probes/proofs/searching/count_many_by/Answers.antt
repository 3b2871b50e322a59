use Rattle.std.proofs.Common.{◌+◌, ◌-◌, ap, sym, length, arith, ◌∙◌}
use Rattle.std.specs.Ordering.{is_le}
use Rattle.bptree_keys.proofs.Counting.{count_all, count_ends}
use Rattle.bptree_keys.proofs.Locating.{results_rise}
use Rattle.bptree_probes.proofs.searching.count_many_by.Goals as goal

pub returns-then-is_le-clause-ascending : goal.returns-then-is_le-clause-ascending
returns-then-is_le-clause-ascending g c = λ s.
    count_all (λ (y : g.row.K.Denot). g.K.Ord.cmp y (g.P.Probe.meant c.args.probe.now)) c.args.keys.now c.index-keys-count.result (omega (arith, c.requires)) c.index-keys-count.is (ap is_le (sym c.order_of.ensures) ∙ sym c.if-is_le.ensures) (results_rise g.K.Ord.cmp g.met.K.Ord.total c.args.keys.now (g.P.Probe.meant c.args.probe.now) s)

pub count_later_by-requires-clause-among : goal.count_later_by-requires-clause-among
count_later_by-requires-clause-among g c =
    let rest = c.saturating_sub-rest.result in
    let least = c.saturating_sub-rest.ensures in
    count_ends (λ (y : g.row.K.Denot). g.K.Ord.cmp y (g.P.Probe.meant c.args.probe.now)) c.args.keys.now rest (length c.args.keys.now - rest - 16 + 16) c.from.result c.index-keys-saturating_sub.result c.index-keys-count.result c.order_of-2.result c.is_le-is_past.result (omega (arith, c.requires, least)) c.index-keys-count.is (ap is_le (sym c.order_of.ensures) ∙ sym c.if-is_le.ensures) (rw c.saturating_sub.ensures at c.index-keys-saturating_sub.is) c.order_of-2.ensures c.is_le-is_past.ensures c.from.ensures (omega (arith, c.requires, least)) (omega (arith, c.requires, least))

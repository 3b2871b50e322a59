use Rattle.std.proofs.Common.{◌+◌, ◌-◌, ◌*◌, ◌/◌, refl, arith}
use Rattle.bptree_keys.proofs.Counting.{count_then, count_end}
use Rattle.bptree_keys.proofs.Locating.{results_rise}
use Rattle.bptree_probes.proofs.searching.count_among_by.Goals as goal

pub halves-preserved : goal.halves-preserved
halves-preserved g c =
    let half = c.halves.left / 2 in
    let next = c.halves.first + c.from.result * half in
    let s = count_then (λ (y : g.row.K.Denot). g.K.Ord.cmp y (g.P.Probe.meant c.args.probe.now)) c.args.keys.now c.halves.first next half c.halves.left (c.halves.left - half) c.from.result c.index-keys-first.result c.order_of.result c.is_le-is_past.result (omega arith) (omega (arith, c.halves.invariant.within)) c.index-keys-first.is c.order_of.ensures c.is_le-is_past.ensures c.from.ensures refl (omega arith) (omega arith) c.halves.invariant.among in
    record {
      positive = omega arith;
      within = omega (arith, s.0, c.halves.invariant.within);
      among = s.1;
    }

pub returns-clause-ascending : goal.returns-clause-ascending
returns-clause-ascending g c = λ s.
    count_end (λ (y : g.row.K.Denot). g.K.Ord.cmp y (g.P.Probe.meant c.args.probe.now)) c.args.keys.now c.halves.first c.halves.left (omega arith) c.halves.invariant.positive (omega (arith, c.halves.invariant.within)) c.halves.invariant.among (results_rise g.K.Ord.cmp g.met.K.Ord.total c.args.keys.now (g.P.Probe.meant c.args.probe.now) s)

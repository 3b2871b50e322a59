use Rattle.std.proofs.Common.{◌+◌, ◌*◌, refl, arith}
use Rattle.bptree_keys.proofs.Counting.{count_then}
use Rattle.bptree_probes.proofs.searching.count_later_by.Goals as goal

pub count_among_by-requires-clause-among : goal.count_among_by-requires-clause-among
count_among_by-requires-clause-among g c =
    (count_then (λ (y : g.row.K.Denot). g.K.Ord.cmp y (g.P.Probe.meant c.args.probe.now)) c.args.keys.now c.args.base (c.args.base + c.from.result * c.args.step) c.args.step (c.args.step + 16) 16 c.from.result c.index-keys-base.result c.order_of.result c.is_le-is_past.result (omega (arith, c.requires.step)) (omega (arith, c.requires.within)) c.index-keys-base.is c.order_of.ensures c.is_le-is_past.ensures c.from.ensures refl (omega arith) (omega (arith, c.requires.step)) c.requires.among).1

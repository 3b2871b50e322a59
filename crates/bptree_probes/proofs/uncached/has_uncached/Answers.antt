use Rattle.std.proofs.Common.{sym}
use Rattle.bptree_tree.proofs.Counted.{has_read}
use Rattle.bptree_probes.proofs.uncached.has_uncached.Goals as goal

pub returns : goal.returns
returns g c = sym (has_read g.K.Ord.cmp c.args.map.now c.args.key.now c.get_uncached.result c.is_some.result c.get_uncached.ensures (sym c.is_some.ensures))

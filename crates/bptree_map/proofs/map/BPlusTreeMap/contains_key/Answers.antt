use Rattle.std.proofs.Common.{sym}
use Rattle.bptree_tree.proofs.Counted.{has_read}
use Rattle.bptree_map.proofs.map.BPlusTreeMap.contains_key.Goals as goal

pub returns : goal.returns
returns g c = sym (has_read g.K.Ord.cmp c.args.self.now c.args.k.now c.get.result c.is_some.result c.get.ensures (sym c.is_some.ensures))

use Rattle.bptree_map.proofs.IndexLemmas.{cursor_is}
use Rattle.bptree_map.proofs.map.indexes.BPlusTreeMap+K+V+Count.cursor_at.Goals as goal

pub returns-clause-cursor : goal.returns-clause-cursor
returns-clause-cursor g c = (cursor_is g.K.Ord.cmp c.args.i c.args.self.now _ c.in_ok-found.ensures.selected).0

pub returns-clause-value : goal.returns-clause-value
returns-clause-value g c = (cursor_is g.K.Ord.cmp c.args.i c.args.self.now _ c.in_ok-found.ensures.selected).1

use Rattle.bptree_map.proofs.IndexLemmas.{selected_is}
use Rattle.bptree_map.proofs.map.BPlusTreeMap+K+V+Count.get_index.Goals as goal

pub returns : goal.returns
returns g c = selected_is c.args.i c.args.self.now _ c.in-Ok.ensures.selected

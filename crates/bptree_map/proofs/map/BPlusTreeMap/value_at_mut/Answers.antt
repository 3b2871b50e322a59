use Rattle.bptree_map.proofs.AddingLemmas.{borrowed_if_there}
use Rattle.bptree_map.proofs.map.BPlusTreeMap.value_at_mut.Goals as goal

pub unwrap-requires : goal.unwrap-requires
unwrap-requires g c = borrowed_if_there g.K.Ord.cmp c.args.self.now c.args.k.now c.requires c.get_mut.result c.get_mut.ensures.value

use Rattle.bptree_map.proofs.KeyLemmas.{holds_found}
use Rattle.bptree_set.proofs.set.BPlusTreeSet.contains.Goals as goal

pub returns : goal.returns
returns g c = rw (← c.self.view_is, c.is_some.ensures) (holds_found g.K.Ord.cmp _ _ _ c.get.ensures)

use Rattle.bptree_tree.proofs.UpdateLemmas.{updated_whole}
use Rattle.bptree_tree.proofs.tree.BPlusTree.update_each.Goals as goal

pub returns : goal.returns
returns g c = rw (← c.self.view_is) (updated_whole g.F.FnMut c.args.f g.S.K.Ord.cmp c.self.inside.nodes.contents c.update_within.new.tree.contents c.update_within.ensures)

use Rattle.bptree_tree.proofs.Removed.{key_replaced}
use Rattle.bptree_tree.proofs.tree.BPlusTree.replace_key.Goals as goal
use Rattle.bptree_tree.proofs.tree.BPlusTree.replace_key.Goals.{in-Ok, in-Err}

pub returns-clause-ok : goal.returns-clause-ok
returns-clause-ok g c =
    elim c.match-replace_entry.branch [
      | in-Ok w ↦ rw (w.result-is, ← c.self.view_is) (key_replaced g.met.S.K.Ord.total c.args.k _ _ c.recall.ensures.ascending w.in-Ok.old w.in-Ok.ensures.replaced)
      | in-Err w ↦ rw w.result-is tt
    ]

use Rattle.std.proofs.lemmas.Result.{IfOk-weaker}
use Rattle.bptree_tree.proofs.Removed.{entry_removed}
use Rattle.bptree_tree.proofs.tree.BPlusTree.remove_entry.Goals as goal

pub returns-clause-ok : goal.returns-clause-ok
returns-clause-ok g c =
    rw (← c.self.view_is) (IfOk-weaker c.remove_entry.result _ _ (entry_removed g.met.S.K.Ord.total c.args.k.now _ _ c.recall.ensures.ascending) c.remove_entry.ensures.removed)

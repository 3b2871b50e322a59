use Rattle.std.proofs.lemmas.Result.{IfOk-weaker}
use Rattle.bptree_keys.specs.Ends.{is_back}
use Rattle.bptree_tree.proofs.Removed.{end_removed}
use Rattle.bptree_tree.proofs.tree.BPlusTree.pop_end.Goals as goal

pub returns-clause-ok : goal.returns-clause-ok
returns-clause-ok g c = rw (← c.self.view_is) (IfOk-weaker c.remove_end.result _ _ (end_removed (is_back c.args.end) _ _) c.remove_end.ensures.removed)

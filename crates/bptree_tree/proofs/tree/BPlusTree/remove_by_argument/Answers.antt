use Rattle.std.proofs.lemmas.Result.{IfOk-weaker}
use Rattle.bptree_tree.proofs.Removed.{selected_removed, reported_removed}
use Rattle.bptree_tree.proofs.tree.BPlusTree.remove_by_argument.Goals as goal

pub returns-clause-ok : goal.returns-clause-ok
returns-clause-ok g c =
    rw (← c.self.view_is) (IfOk-weaker c.remove_by_argument.result _ _ (selected_removed g.S.Argument.SearchArgument.selects c.args.query _ _) c.remove_by_argument.ensures.removed)

pub returns-clause-by_key : goal.returns-clause-by_key
returns-clause-by_key g c =
    rw (← c.self.view_is) (IfOk-weaker c.remove_by_argument.result _ _ (reported_removed g.S.Argument.SearchArgument.selects c.args.query g.met.S.K.Ord.total _ _ c.recall.ensures.ascending) c.remove_by_argument.ensures.removed)

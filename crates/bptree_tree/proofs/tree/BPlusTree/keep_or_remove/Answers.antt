use Rattle.bptree_tree.proofs.RetainLemmas.{removed, stays}
use Rattle.bptree_tree.proofs.tree.BPlusTree.keep_or_remove.Goals as goal

pub returns-then-not-stays-clause-kept : goal.returns-then-not-stays-clause-kept
returns-then-not-stays-clause-kept g c =
    let gone = rw c.unwrap.ensures at c.remove_entry.ensures.ok in
    rw (← c.self.view_is) (removed g.F.FnMut c.args.k.now c.args.f c.self.inside.nodes.contents c.call_for-stays.new.tree.contents c.remove_entry.new.self.contents c.call_for-stays.result c.call_for-stays.ensures.called c.if-not-stays.true gone.1)

pub returns-else-not-stays-clause-kept : goal.returns-else-not-stays-clause-kept
returns-else-not-stays-clause-kept g c =
    rw (← c.self.view_is) (stays g.F.FnMut c.args.k.now c.args.f c.self.inside.nodes.contents c.call_for-stays.new.tree.contents c.call_for-stays.result c.call_for-stays.ensures.called c.if-not-stays.false)

use Rattle.bptree_propagation.proofs.NodeChanges.{entry_back}
use Rattle.bptree_propagation.proofs.node_changes.undo_insert_child_entry.Goals as goal

pub returns : goal.returns
returns g c = record {
  undoes = λ was division index read is.
      let taken = c.remove_at-entry in
      let given = c.restore_summary in
      entry_back was c.args.node.now taken.new.self given.new.node c.args.index c.args.old taken.result given.result division index read is taken.ensures.undoes given.ensures.left given.ensures.after given.ensures.entry;
}

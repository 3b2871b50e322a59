use Rattle.bptree_propagation.proofs.NodeChanges.{cut_back}
use Rattle.bptree_propagation.proofs.node_changes.undo_take_and_split.Goals as goal

pub returns : goal.returns
returns g c = record {
  undoes = λ was division index full read cut.
      let taken = c.undo_split-entry in
      let given = c.restore_summary in
      cut_back was c.args.node.now c.args.half.value taken.new.self given.new.node c.args.index c.args.old c.args.up taken.result given.result division index full read cut taken.ensures.undoes given.ensures.left given.ensures.after given.ensures.entry;
}

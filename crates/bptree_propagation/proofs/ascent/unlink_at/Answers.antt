use Rattle.bptree_propagation.specs.Sums.{with_division}
use Rattle.bptree_propagation.proofs.Undone.{node_back, same_node}
use Rattle.bptree_propagation.proofs.ascent.unlink_at.Goals as goal

pub returns : goal.returns
returns g c = record {
  undoes = λ was node division here index linked.
      let now = g.S.NodeStore.slots c.args.store.now in
      let borrowed = c.get_mut_inner in
      let given = c.undo_insert_child_entry in
      let is = same_node (now.inner c.args.id.0) borrowed.result.now (with_division node c.args.index division) borrowed.ensures.value linked.sets.changed in
      let undone = given.ensures.undoes node division index linked.summary is in
      let updates = g.met.S.NodeStore.with_inner_updates c.args.store.now c.args.id.0 given.new.node (rw borrowed.ensures.value tt) in
      (node_back was now _ c.args.id node _ given.new.node here (record { inner = linked.sets; leaf = linked.leaf }) updates undone.0, undone.1);
}

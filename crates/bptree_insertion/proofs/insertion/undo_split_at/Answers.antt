use Rattle.bptree_propagation.proofs.Undone.{leaves_joined}
use Rattle.bptree_insertion.proofs.insertion.undo_split_at.Goals as goal

pub returns : goal.returns
returns g c = record {
  undoes = λ was node pair division here within divides.
      let slots = g.S.NodeStore.slots in
      let left = c.take_leaf-leaf in
      let right = c.take_leaf-half in
      let joined = c.undo_split-pair in
      let borrowed = c.deref_mut.ensures.value in
      leaves_joined g.S.K.Ord.cmp was (slots c.args.store.now) (slots left.new.self) (slots right.new.self) (slots c.assign_leaf.new.self) (slots c.release_leaf.new.self) c.args.id c.args.fresh c.args.slot node left.result.value right.result.value joined.new.self pair joined.result division
      here within divides left.ensures.value right.ensures.value left.ensures.updates right.ensures.updates c.assign_leaf.ensures c.release_leaf.ensures (rw borrowed at joined.ensures.undoes) (rw borrowed at joined.ensures.prev) joined.ensures.next;
}

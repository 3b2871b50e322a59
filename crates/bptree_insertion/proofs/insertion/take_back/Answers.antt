use Rattle.bptree_propagation.proofs.Undone.{leaf_taken_back}
use Rattle.bptree_insertion.proofs.insertion.take_back.Goals as goal

pub returns : goal.returns
returns g c = record {
  undoes = λ was node pair here within adds.
      let slots = g.S.NodeStore.slots in
      let taken = c.take_leaf-leaf in
      let gone = c.delete_at-pair in
      let borrowed = c.deref_mut.ensures.value in
      leaf_taken_back was (slots c.args.store.now) (slots taken.new.self) (slots c.assign_leaf.new.self) c.args.id c.args.slot node taken.result.value gone.new.self pair gone.result here within adds
      taken.ensures.value taken.ensures.updates (rw borrowed at gone.ensures.pair) (rw borrowed at gone.ensures.after) c.assign_leaf.ensures;
}

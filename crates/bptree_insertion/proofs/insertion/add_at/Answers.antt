use Rattle.bptree_propagation.proofs.Undone.{leaf_unwritten, pair_back}
use Rattle.bptree_insertion.proofs.insertion.add_at.Goals as goal

pub returns-in-Err-clause-unchanged : goal.returns-in-Err-clause-unchanged
returns-in-Err-clause-unchanged g c =
    let slots = g.S.NodeStore.slots in
    let from = c.get_mut_leaf-leaf.result.now in
    let here = c.get_mut_leaf-leaf.ensures.value in
    let gone = c.delete_at in
    let back = pair_back from c.insert_at.new.self gone.new.self c.args.slot (c.args.key, c.args.value) gone.result c.insert_at.ensures.after (rw here at c.requires.slot) gone.ensures.pair gone.ensures.after in
    leaf_unwritten (slots c.args.store.now) (slots (g.S.NodeStore.with_leaf c.args.store.now c.args.id.0 gone.new.self)) c.args.id from gone.new.self here (g.met.S.NodeStore.with_leaf_updates c.args.store.now c.args.id.0 gone.new.self (rw here tt)) back.0

pub returns-in-Err-clause-returned : goal.returns-in-Err-clause-returned
returns-in-Err-clause-returned g c =
    let from = c.get_mut_leaf-leaf.result.now in
    let here = c.get_mut_leaf-leaf.ensures.value in
    let gone = c.delete_at in
    (pair_back from c.insert_at.new.self gone.new.self c.args.slot (c.args.key, c.args.value) gone.result c.insert_at.ensures.after (rw here at c.requires.slot) gone.ensures.pair gone.ensures.after).1

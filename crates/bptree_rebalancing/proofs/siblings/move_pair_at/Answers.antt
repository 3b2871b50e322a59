use Rattle.bptree_rebalancing.proofs.Triples.{pair_moved_right, pair_moved_left}
use Rattle.bptree_rebalancing.proofs.siblings.move_pair_at.Goals as goal

pub returns-in-Left : goal.returns-in-Left
returns-in-Left g c =
    let updates = g.met.S.NodeStore.with_leaf_updates in
    let one = c.get_mut_leaf.ensures.value in
    let other = c.get_mut_leaf-in-Left.ensures.value in
    pair_moved_right c.args.left c.args.right c.pop-key.result c.requires.apart c.requires.can c.in-Left.is one (updates c.args.store.now c.args.left.0 c.pop-key.new.self (rw one tt))
    other (updates (g.S.NodeStore.with_leaf c.args.store.now c.args.left.0 c.pop-key.new.self) c.args.right.0 c.insert_at.new.self (rw other tt)) c.pop-key.ensures.pair c.pop-key.ensures.links c.insert_at.ensures.after

pub returns-in-Right : goal.returns-in-Right
returns-in-Right g c =
    let updates = g.met.S.NodeStore.with_leaf_updates in
    let other = c.get_mut_leaf-in-Right.ensures.value in
    let one = c.get_mut_leaf-in-Right-2.ensures.value in
    pair_moved_left c.args.left c.args.right c.pop_front-key.result c.requires.apart c.requires.can c.in-Right.is other (updates c.args.store.now c.args.right.0 c.pop_front-key.new.self (rw other tt))
    one (updates (g.S.NodeStore.with_leaf c.args.store.now c.args.right.0 c.pop_front-key.new.self) c.args.left.0 c.push.new.self (rw one tt)) c.pop_front-key.ensures.pair c.pop_front-key.ensures.links c.push.ensures

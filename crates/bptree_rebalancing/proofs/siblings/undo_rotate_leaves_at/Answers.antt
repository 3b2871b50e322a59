use Rattle.bptree_rebalancing.proofs.Triples.{leaves_unrotated}
use Rattle.bptree_rebalancing.proofs.siblings.undo_rotate_leaves_at.Goals as goal

pub returns : goal.returns
returns g c was rotated =
    let above = c.get_mut_inner in
    leaves_unrotated c.args.id c.args.left c.args.right above.result.now c.exchange_joint.new.node c.exchange_joint.result rotated above.ensures.value c.exchange_joint.ensures
    (g.met.S.NodeStore.with_inner_updates c.args.store.now c.args.id.0 c.exchange_joint.new.node (rw above.ensures.value tt)) (rw c.other.ensures at c.move_pairs_at.ensures)

use Rattle.bptree_rebalancing.proofs.Triples.{one_there, other_there, node_held, one_held, other_held_then, inners_unrotated, rotates_back}
use Rattle.bptree_rebalancing.proofs.siblings.undo_rotate_inners_at.Goals as goal

pub take_inner-one-requires : goal.take_inner-one-requires
take_inner-one-requires g c = one_there c.requires.0 c.args.id c.args.left c.args.right c.requires.1.three c.requires.1.far c.take_inner-node.ensures.updates

pub take_inner-other-requires : goal.take_inner-other-requires
take_inner-other-requires g c = other_there c.requires.0 c.args.id c.args.left c.args.right c.requires.1.three c.requires.1.far c.take_inner-node.ensures.updates c.take_inner-one.ensures.updates

pub put_back_inner-requires : goal.put_back_inner-requires
put_back_inner-requires g c = node_held c.requires.0 c.args.id c.args.left c.args.right c.requires.1.three c.requires.1.far c.take_inner-node.ensures.updates c.take_inner-one.ensures.updates c.take_inner-other.ensures.updates

pub put_back_inner-requires-2 : goal.put_back_inner-requires-2
put_back_inner-requires-2 g c = one_held c.requires.0 c.args.id c.args.left c.args.right c.requires.1.three c.requires.1.far c.take_inner-node.ensures.updates c.take_inner-one.ensures.updates c.take_inner-other.ensures.updates c.put_back_inner.ensures

pub put_back_inner-requires-3 : goal.put_back_inner-requires-3
put_back_inner-requires-3 g c = other_held_then c.requires.0 c.args.id c.args.left c.args.right c.requires.1.three c.requires.1.far c.take_inner-node.ensures.updates c.take_inner-one.ensures.updates c.take_inner-other.ensures.updates c.put_back_inner.ensures c.put_back_inner-2.ensures

pub undo_rotate_inners-requires : goal.undo_rotate_inners-requires
undo_rotate_inners-requires g c =
    let able = rotates_back c.requires.1 c.take_inner-node.ensures.value c.take_inner-node.ensures.updates c.take_inner-one.ensures.value c.take_inner-one.ensures.updates c.take_inner-other.ensures.value
    c.deref_mut.ensures.value c.deref_mut-2.ensures.value c.deref_mut-3.ensures.value in
    record { index = able.0; most = able.1; rotates = able.2; left = able.3; right = able.4 }

pub returns : goal.returns
returns g c was rotated =
    inners_unrotated c.args.id c.args.left c.args.right (rotated.three.apart, rotated.far.0, rotated.far.1) c.take_inner-node.ensures.updates c.take_inner-one.ensures.value c.take_inner-one.ensures.updates c.take_inner-other.ensures.value c.take_inner-other.ensures.updates c.put_back_inner.ensures c.put_back_inner-2.ensures
    c.take_inner-node.ensures.value c.put_back_inner-3.ensures was rotated ((rw (c.deref_mut.ensures.value, c.deref_mut-2.ensures.value, c.deref_mut-3.ensures.value) at c.undo_rotate_inners.ensures).undoes)

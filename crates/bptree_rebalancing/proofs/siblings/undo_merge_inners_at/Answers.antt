use Rattle.bptree_rebalancing.proofs.Triples.{inners_unmerged_at, divides_back}
use Rattle.bptree_rebalancing.proofs.siblings.undo_merge_inners_at.Goals as goal

pub undo_merge_inners-requires : goal.undo_merge_inners-requires
undo_merge_inners-requires g c =
    let able = divides_back c.requires.1 c.requires.2 c.take_inner-node.ensures.value c.take_inner-node.ensures.updates c.take_inner-one.ensures.value
    c.deref_mut.ensures.value c.deref_mut-2.ensures.value c.deref_mut-3.ensures.value in
    record { index = able.0; room = able.1; kept = able.2; most = able.3; shell = able.4 }

pub returns : goal.returns
returns g c was merged kept read =
    inners_unmerged_at was c.args.id c.take_inner-node.ensures.value c.take_inner-node.ensures.updates c.args.left c.args.right c.take_inner-one.ensures.value c.take_inner-one.ensures.updates c.put_back_inner.ensures c.put_back_inner-2.ensures c.put_back_inner-3.ensures
    merged ((rw (c.deref_mut.ensures.value, c.deref_mut-2.ensures.value, c.deref_mut-3.ensures.value) at c.undo_merge_inners.ensures).undoes) kept read

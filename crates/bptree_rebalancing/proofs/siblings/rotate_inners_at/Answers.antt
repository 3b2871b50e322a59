use Rattle.bptree_rebalancing.proofs.Triples.{inners_rotated, ok_so}
use Rattle.bptree_rebalancing.proofs.siblings.rotate_inners_at.Goals as goal

pub returns-clause-rotates : goal.returns-clause-rotates
returns-clause-rotates g c =
    ok_so c.rotate_inners-asked.result _ _ c.rotate_inners-asked.ensures.rotates
    (λ done rotates. inners_rotated c.args.id c.args.left c.args.right c.requires.siblings.apart c.take_inner-node.ensures.updates c.take_inner-one.ensures.value c.take_inner-one.ensures.updates c.take_inner-other.ensures.value c.take_inner-other.ensures.updates c.put_back_inner.ensures c.put_back_inner-2.ensures
    c.take_inner-node.ensures.value c.put_back_inner-3.ensures c.requires.siblings.most c.requires.rotates (rw (c.deref_mut.ensures.value, c.deref_mut-2.ensures.value, c.deref_mut-3.ensures.value) at rotates))

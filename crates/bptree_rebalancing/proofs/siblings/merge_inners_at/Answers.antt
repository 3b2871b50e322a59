use Rattle.bptree_rebalancing.proofs.Triples.{inners_merged}
use Rattle.bptree_rebalancing.proofs.siblings.merge_inners_at.Goals as goal

pub returns-in-Ok-clause-merges : goal.returns-in-Ok-clause-merges
returns-in-Ok-clause-merges g c =
    inners_merged c.args.id c.args.left c.args.right c.requires.siblings.apart c.take_inner-node.ensures.updates c.take_inner-one.ensures.value c.take_inner-one.ensures.updates c.take_inner-other.ensures.value c.take_inner-other.ensures.updates c.put_back_inner.ensures c.put_back_inner-2.ensures
    c.take_inner-node.ensures.value c.requires.siblings.most c.requires.fits (rw (c.deref_mut.ensures.value, c.deref_mut-2.ensures.value, c.deref_mut-3.ensures.value) at c.in-Ok.ensures.merges)

use Rattle.bptree_rebalancing.proofs.Triples.{leaves_merged}
use Rattle.bptree_rebalancing.proofs.siblings.merge_leaves_at.Goals as goal

pub returns-in-Ok-clause-merges : goal.returns-in-Ok-clause-merges
returns-in-Ok-clause-merges g c =
    leaves_merged c.args.id c.args.left c.args.right c.requires.apart c.take_inner-node.ensures.updates c.take_leaf-one.ensures.value c.take_leaf-one.ensures.updates c.take_leaf-other.ensures.value c.take_leaf-other.ensures.updates c.put_back_inner.ensures c.assign_leaf.ensures
    c.take_inner-node.ensures.value c.requires.most c.requires.fits (rw (c.deref_mut.ensures.value, c.deref_mut-2.ensures.value, c.deref_mut-3.ensures.value) at c.in-Ok.ensures.merges)

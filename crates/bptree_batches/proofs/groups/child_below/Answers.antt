use Rattle.bptree_batches.proofs.WayLemmas.{way_to_child}
use Rattle.bptree_batches.proofs.groups.child_below.Goals as goal

pub returns : goal.returns
returns g c =
    let total = g.met.S.K.Ord.total in
    let slots = g.S.NodeStore.slots c.args.store.now in
    let at = c.locate_child-child.ensures in
    way_to_child total slots c.args.height c.args.id c.inner_id_unchecked-inner.result c.get_inner.result.now c.args.key.now c.locate_child-child.result.0 c.locate_child-child.result.1
    c.inner_id_unchecked-inner.ensures c.requires.stored c.get_inner.ensures at.leads at.in_range at.child

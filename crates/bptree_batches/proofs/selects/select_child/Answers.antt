use Rattle.bptree_batches.proofs.SelectLemmas.{counts_fit, select_to_child}
use Rattle.bptree_batches.proofs.selects.select_child.Goals as goal

pub index_of-child_index-requires-clause-fits : goal.index_of-child_index-requires-clause-fits
index_of-child_index-requires-clause-fits g c =
    counts_fit g.met.S.K.Ord.total (g.S.NodeStore.slots c.args.store.now) c.args.height c.args.way.0 c.inner_id_unchecked.result c.get_inner-node.result.now c.arguments.result.now
    c.inner_id_unchecked.ensures c.requires.subtree c.get_inner-node.ensures c.arguments.ensures.value

pub returns : goal.returns
returns g c =
    select_to_child g.met.S.K.Ord.total (g.S.NodeStore.slots c.args.store.now) c.args.height c.args.way.0 c.inner_id_unchecked.result c.get_inner-node.result.now c.arguments.result.now c.args.way.1 c.index_of-child_index.result c.child_id.result
    c.inner_id_unchecked.ensures c.requires.subtree c.get_inner-node.ensures c.arguments.ensures.value c.index_of-child_index.ensures c.child_id.ensures

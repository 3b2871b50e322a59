use Rattle.bptree_batches.proofs.SelectLemmas.{pair_in_leaf}
use Rattle.bptree_batches.proofs.RankWayLemmas.{bottom_is_leaf, bottom_present}
use Rattle.bptree_batches.proofs.selects.select_in_leaf.Goals as goal

pub leaf_id_unchecked-requires : goal.leaf_id_unchecked-requires
leaf_id_unchecked-requires g c = bottom_is_leaf g.met.S.K.Ord.total (g.S.NodeStore.slots c.args.store.now) c.args.way.0 c.requires

pub get_leaf-leaf-requires : goal.get_leaf-leaf-requires
get_leaf-leaf-requires g c = bottom_present g.met.S.K.Ord.total (g.S.NodeStore.slots c.args.store.now) c.args.way.0 c.leaf_id_unchecked.result c.requires c.leaf_id_unchecked.ensures

pub returns : goal.returns
returns g c =
    pair_in_leaf (g.S.NodeStore.slots c.args.store.now) c.args.way.0 c.leaf_id_unchecked.result c.get_leaf-leaf.result.now c.args.way.1 c.try_data_at.result c.leaf_id_unchecked.ensures c.get_leaf-leaf.ensures c.try_data_at.ensures.value
    c.try_data_at.ensures.variant

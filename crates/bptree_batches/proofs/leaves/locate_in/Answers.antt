use Rattle.bptree_batches.proofs.SlotLemmas.{slot_located}
use Rattle.bptree_batches.proofs.WayLemmas.{leaf_number_there, leaf_present}
use Rattle.bptree_batches.proofs.leaves.locate_in.Goals as goal

pub leaf_id_unchecked-requires : goal.leaf_id_unchecked-requires
leaf_id_unchecked-requires g c = leaf_number_there (g.S.NodeStore.slots c.args.store.now) c.args.id c.requires

pub get_leaf-leaf-requires : goal.get_leaf-leaf-requires
get_leaf-leaf-requires g c = leaf_present (g.S.NodeStore.slots c.args.store.now) c.args.id c.leaf_id_unchecked.result c.requires c.leaf_id_unchecked.ensures

pub returns-clause-slot : goal.returns-clause-slot
returns-clause-slot g c =
    slot_located g.met.S.K.Ord.total (g.S.NodeStore.slots c.args.store.now) c.args.id c.leaf_id_unchecked.result c.get_leaf-leaf.result.now c.args.key.now c.locate_slot_counted.result
    c.leaf_id_unchecked.ensures c.get_leaf-leaf.ensures c.locate_slot_counted.ensures.ascending

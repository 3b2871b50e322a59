use Rattle.std.proofs.Common.{refl, sym}
use Rattle.bptree_stores.proofs.IdStates.{Updates-held}
use Rattle.bptree_stores.specs.StoreSlabs.{seated}
use Rattle.bptree_stores.specs.declared.id_state.IdState.TheVariants.{Occupied}
use Rattle.bptree_stores.proofs.node_store_vec.NodeStoreVecNodeStore.assign_leaf.Goals as goal

pub returns : goal.returns
returns g c =
    rw (c.as_usize.ensures, sym c.of.ensures) (record { leaf = Updates-held seated c.args.self.now.leaf_nodes c.args.id.0 (Occupied c.of.result) c.requires; inner = refl })

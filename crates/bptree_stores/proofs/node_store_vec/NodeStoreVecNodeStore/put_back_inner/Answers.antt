use Rattle.std.proofs.Common.{refl}
use Rattle.bptree_stores.proofs.IdStates.{Updates-held}
use Rattle.bptree_stores.specs.StoreSlabs.{boxed}
use Rattle.bptree_stores.specs.declared.id_state.IdState.TheVariants.{Occupied}
use Rattle.bptree_stores.proofs.node_store_vec.NodeStoreVecNodeStore.put_back_inner.Goals as goal

pub returns : goal.returns
returns g c =
    rw c.as_usize.ensures (record { inner = Updates-held boxed c.args.self.now.inner_nodes c.args.id.0 (Occupied c.args.node) c.requires; leaf = refl })

use Rattle.std.proofs.Common.{refl, sym, ap, ◌∙◌, Some}
use Rattle.bptree_stores.specs.IdState.{slot_of_entry, Updates-with_place}
use Rattle.bptree_stores.specs.StoreSlabs.{seated}
use Rattle.bptree_stores.specs.declared.id_state.IdState.TheVariants.{Reserved}
use Rattle.bptree_stores.proofs.node_store_vec.NodeStoreVecNodeStore.take_leaf.Goals as goal

pub returns-clause-value : goal.returns-clause-value
returns-clause-value g c =
    let there = rw c.as_usize.ensures at c.index_mut.ensures.value in
    rw c.into_box.ensures (ap (slot_of_entry seated) (there ∙ ap Some (sym c.replace.ensures.value ∙ c.in-Occupied.is)))

pub returns-clause-updates : goal.returns-clause-updates
returns-clause-updates g c =
    rw (c.as_usize.ensures, c.replace.ensures.after) (record { leaf = Updates-with_place seated c.args.self.now.leaf_nodes c.args.id.0 Reserved c.requires; inner = refl })

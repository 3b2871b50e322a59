-- Clones of the entries of slabs, and of a store over slabs.
use Rattle.std.specs.Prelude.{◌≡◌, ℕ, zero, suc, List, [], ◌∷◌, Option, Some, None, slice_index_or, refl}
use Rattle.std.specs.List.{AllZip}
use Rattle.std.proofs.Common.{ap}
use Rattle.slab.specs.Slab.{Slab, IsSlabClone}
use Rattle.slab.specs.Slab.{IsSlotClone as IsEntryClone}
use Rattle.bptree_nodes.specs.Clones.{IsInnerClone, IsLeafClone}
use Rattle.bptree_stores.specs.Clones.{IsSlotClone, IsSlotsClone}
use Rattle.bptree_stores.specs.IdState.{slot_of, slot_of_entry, slot_at}
use Rattle.bptree_stores.specs.StoreSlabs.{slots, boxed, seated}
use Rattle.bptree_stores.specs.declared.node_store_vec.NodeStoreVec.{NodeStoreVec}
use Rattle.bptree_stores.specs.declared.id_state.IdState.{IdState}
use Rattle.bptree_stores.specs.declared.id_state.IdState.TheVariants.{Reserved, Occupied}

-- both entries are reserved, or both have a node and the second holder is a clone of the first
abbrev pub IsIdStateClone : {H : Type 0} → (H → H → Type 0) → IdState H → IdState H → Type 0
IsIdStateClone holder_clone Reserved copy = copy ≡ Reserved
IsIdStateClone {H} holder_clone (Occupied holder) copy = (other : H) × (copy ≡ Occupied other) × holder_clone holder other

module _ {H N : Type 0} (node_of : H → N) (node_clone : N → N → Type 0) where
  -- the node of the second holder is a clone of the node of the first
  abbrev pub IsHolderClone : H → H → Type 0
  IsHolderClone holder copy = node_clone (node_of holder) (node_of copy)

  IsSlotClone-id_state : (id_state copy : IdState H) → IsIdStateClone IsHolderClone id_state copy → IsSlotClone node_clone (slot_of node_of id_state) (slot_of node_of copy)
  IsSlotClone-id_state Reserved copy is = ap (slot_of node_of) is
  IsSlotClone-id_state (Occupied holder) copy is = (node_of is.0, ap (slot_of node_of) is.1, is.2)

  IsSlotClone-entry : (entry copy : Option (IdState H)) → IsEntryClone (IsIdStateClone IsHolderClone) entry copy → IsSlotClone node_clone (slot_of_entry node_of entry) (slot_of_entry node_of copy)
  IsSlotClone-entry None copy is = ap (slot_of_entry node_of) is
  IsSlotClone-entry (Some id_state) None is = absurd is
  IsSlotClone-entry (Some id_state) (Some copy) is = IsSlotClone-id_state id_state copy is

  -- if the entries are clones, the states of each id are clones
  IsSlotClone-entries : (entries copies : List (Option (IdState H))) → AllZip (IsEntryClone (IsIdStateClone IsHolderClone)) entries copies → (number : ℕ) → IsSlotClone node_clone (slot_of_entry node_of (slice_index_or entries number None)) (slot_of_entry node_of (slice_index_or copies number None))
  IsSlotClone-entries [] [] all number = refl
  IsSlotClone-entries [] (copy ∷ copies) all number = absurd all
  IsSlotClone-entries (entry ∷ entries) [] all number = absurd all
  IsSlotClone-entries (entry ∷ entries) (copy ∷ copies) all zero = IsSlotClone-entry entry copy all.0
  IsSlotClone-entries (entry ∷ entries) (copy ∷ copies) all (suc number) = IsSlotClone-entries entries copies all.1 number

  pub IsSlotClone-indexes : (indexes copies : Slab (IdState H)) → IsSlabClone (IsIdStateClone IsHolderClone) indexes copies → (number : ℕ) → IsSlotClone node_clone (slot_at node_of indexes number) (slot_at node_of copies number)
  IsSlotClone-indexes indexes copies is number = IsSlotClone-entries indexes.slots copies.slots is.slots number

module _ {K V A : Type 0} (key_clone : K → K → Type 0) (value_clone : V → V → Type 0) (argument_clone : A → A → Type 0) where
  -- the entries of inner nodes and of leaves are clones, each with its id
  pub record IsStoreClone (store copy : NodeStoreVec K V A) : Type 0 where
    pub inner : IsSlabClone (IsIdStateClone (IsHolderClone boxed (IsInnerClone key_clone argument_clone))) store.inner_nodes copy.inner_nodes
    pub leaf : IsSlabClone (IsIdStateClone (IsHolderClone seated (IsLeafClone key_clone value_clone))) store.leaf_nodes copy.leaf_nodes

  pub slots_of_clone : (store copy : NodeStoreVec K V A) → IsStoreClone store copy → IsSlotsClone (IsInnerClone key_clone argument_clone) (IsLeafClone key_clone value_clone) (slots store) (slots copy)
  slots_of_clone store copy is = record { inner = IsSlotClone-indexes boxed _ _ _ is.inner; leaf = IsSlotClone-indexes seated _ _ _ is.leaf }

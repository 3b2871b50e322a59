-- The changes of a write to an entry of a slab.
use Rattle.std.specs.Prelude.{◌≡◌, ℕ, Option, Some, None, IsSome, refl}
use Rattle.std.proofs.Common.{ap}
use Rattle.slab.specs.Slab.{Slab, get, with_value}
use Rattle.slab.proofs.SlabLemmas.{Updates-with_value}
use Rattle.bptree_nodes.specs.Slot.{Held, Updates}
use Rattle.bptree_stores.specs.declared.id_state.IdState.{IdState}
use Rattle.bptree_stores.specs.IdState.{slot_of, slot_of_entry, slot_at}

module _ {H N : Type 0} (node_of : H → N) where
  -- a reserved id has an entry
  held_there : (entry : Option (IdState H)) → slot_of_entry node_of entry ≡ Held → IsSome entry
  held_there None held = absurd (cc)
  held_there (Some id_state) held = refl

  -- a write to the entry of a reserved id changes the state of this id and of no other
  pub Updates-held : (indexes : Slab (IdState H)) (i : ℕ) (p : IdState H) → slot_at node_of indexes i ≡ Held → Updates (slot_at node_of indexes) (slot_at node_of (with_value indexes i p)) i (slot_of node_of p)
  Updates-held indexes i p held =
      let updates = Updates-with_value indexes i p (held_there (get indexes i) held) in
      record { changed = ap (slot_of_entry node_of) updates.changed; others = λ j ne. ap (slot_of_entry node_of) (updates.others j ne) }

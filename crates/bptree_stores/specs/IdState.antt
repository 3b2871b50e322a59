-- The states of ids in a store over slabs.
use Rattle.std.specs.Prelude.{◌≡◌, ℕ, zero, suc, Option, Some, None, is_some, IsSome, List, [], ◌∷◌, count_by, slice_index_or, refl}
use Rattle.std.proofs.Common.{ap, arith, cond, sym}
use Rattle.std.proofs.lemmas.List.Sums.{sum_by-cons}
use Rattle.slab.specs.Slab.{Slab, get, with_value, slab_len}
use Rattle.slab.proofs.SlabLemmas.{Updates-with_value}
use Rattle.bptree_nodes.specs.Slot.{Slot, Free, Held, Present, IsPresent, Updates}
use Rattle.bptree_stores.specs.declared.id_state.IdState.{IdState}
use Rattle.bptree_stores.specs.declared.id_state.IdState.TheVariants.{Reserved, Occupied}

-- if the count of present entries is 0, every entry is `None`
none_there : {X : Type 0} (entries : List (Option X)) → count_by is_some entries ≡ 0 → (number : ℕ) → slice_index_or entries number None ≡ None
none_there [] none number = refl
none_there (None ∷ rest) none zero = refl
none_there (None ∷ rest) none (suc number) =
    none_there rest (let counted = sum_by-cons (λ entry. cond (is_some entry) 1 0) None rest in omega arith) number
none_there (Some x ∷ rest) none number =
    absurd (let counted = sum_by-cons (λ entry. cond (is_some entry) 1 0) (Some x) rest in omega arith)

none_counted : {X : Type 0} (entries : List (Option X)) → ((number : ℕ) → slice_index_or entries number None ≡ None) → count_by is_some entries ≡ 0
none_counted [] none = refl
none_counted (None ∷ rest) none =
    let counted = sum_by-cons (λ entry. cond (is_some entry) 1 0) None rest in
    let later = none_counted rest (λ number. none (suc number)) in
    omega arith
none_counted (Some x ∷ rest) none = absurd (let e : Some x ≡ None = none zero in cc)

module _ {H : Type 0} where
  -- the entry has a node
  abbrev pub IsOccupied : IdState H → Type 0
  IsOccupied Reserved = ⊥
  IsOccupied (Occupied _) = Unit {0}

  -- no id has an entry in the slab
  abbrev pub IsVacant : Slab (IdState H) → Type 0
  IsVacant indexes = (number : ℕ) → get indexes number ≡ None

  pub vacant_where_empty : (indexes : Slab (IdState H)) → slab_len indexes ≡ 0 → IsVacant indexes
  vacant_where_empty indexes empty = none_there indexes.slots empty

  pub empty_where_vacant : (indexes : Slab (IdState H)) → IsVacant indexes → slab_len indexes ≡ 0
  empty_where_vacant indexes vacant = none_counted indexes.slots vacant

-- entries that contain their nodes in an H, whose node `node_of` returns
module _ {H N : Type 0} (node_of : H → N) where
  abbrev pub slot_of : IdState H → Slot N
  slot_of Reserved = Held
  slot_of (Occupied holder) = Present (node_of holder)

  -- the state of an id from its optional entry
  abbrev pub slot_of_entry : Option (IdState H) → Slot N
  slot_of_entry None = Free
  slot_of_entry (Some id_state) = slot_of id_state

  -- the state of an id of the slab
  abbrev pub slot_at : Slab (IdState H) → ℕ → Slot N
  slot_at indexes number = slot_of_entry (get indexes number)

  -- an id with a node has an entry
  IsPresent-some : (entry : Option (IdState H)) → IsPresent (slot_of_entry entry) → IsSome entry
  IsPresent-some None h = elim h [ ]
  IsPresent-some (Some id_state) _ = refl

  pub Updates-with_place : (indexes : Slab (IdState H)) (i : ℕ) (p : IdState H) → IsPresent (slot_at indexes i) → Updates (slot_at indexes) (slot_at (with_value indexes i p)) i (slot_of p)
  Updates-with_place indexes i p present =
      let updates = Updates-with_value indexes i p (IsPresent-some (get indexes i) present) in
      record { changed = ap slot_of_entry updates.changed; others = λ j ne. ap slot_of_entry (updates.others j ne) }

  free_entry : (entry : Option (IdState H)) → slot_of_entry entry ≡ Free → entry ≡ None
  free_entry None _ = refl
  free_entry (Some Reserved) free = absurd (cc)
  free_entry (Some (Occupied holder)) free = absurd (cc)

  -- if no id has an entry, every id is free
  pub free_where_vacant : (indexes : Slab (IdState H)) → IsVacant indexes → (number : ℕ) → slot_at indexes number ≡ Free
  free_where_vacant indexes vacant number = ap slot_of_entry (vacant number)

  pub vacant_where_free : (indexes : Slab (IdState H)) → ((number : ℕ) → slot_at indexes number ≡ Free) → IsVacant indexes
  vacant_where_free indexes free number = free_entry (get indexes number) (free number)

  -- `with_held` writes the node
  module _ (with_held : H → N → H) where
    -- the entry of an id with its node changed
    abbrev pub with_entry_node : Option (IdState H) → N → IdState H
    with_entry_node None _ = Reserved
    with_entry_node (Some Reserved) _ = Reserved
    with_entry_node (Some (Occupied holder)) new = Occupied (with_held holder new)

    pub slot_of-with_entry_node : ((holder : H) (new : N) → node_of (with_held holder new) ≡ new) → (entry : Option (IdState H)) (new : N) → IsPresent (slot_of_entry entry) → slot_of (with_entry_node entry new) ≡ Present new
    slot_of-with_entry_node writes None new h = elim h [ ]
    slot_of-with_entry_node writes (Some Reserved) new h = elim h [ ]
    slot_of-with_entry_node writes (Some (Occupied holder)) new _ = ap Present (writes holder new)

    -- a write of the node of an id changes the state of this id and of no other
    pub Updates-with_node : ((holder : H) (new : N) → node_of (with_held holder new) ≡ new) → (indexes : Slab (IdState H)) (number : ℕ) (new : N) → IsPresent (slot_at indexes number) → Updates (slot_at indexes) (slot_at (with_value indexes number (with_entry_node (get indexes number) new))) number (Present new)
    Updates-with_node writes indexes number new present =
        let entry = get indexes number in
        rw (sym (slot_of-with_entry_node writes entry new present)) (Updates-with_place indexes number (with_entry_node entry new) present)

-- The clones of stores.
use Rattle.std.specs.Prelude.{◌≡◌, ℕ}
use Rattle.bptree_nodes.specs.Slot.{Slot, Slots, Free, Held, Present}

-- both ids are free, both are reserved, or both have a node and the second node is a clone of the first
abbrev pub IsSlotClone : {N : Type 0} → (N → N → Type 0) → Slot N → Slot N → Type 0
IsSlotClone node_clone Free copy = copy ≡ Free
IsSlotClone node_clone Held copy = copy ≡ Held
IsSlotClone {N} node_clone (Present node) copy = (other : N) × (copy ≡ Present other) × node_clone node other

-- the same ids are reserved and present, and each node is a clone
pub record IsSlotsClone {I L : Type 0} (inner_clone : I → I → Type 0) (leaf_clone : L → L → Type 0) (slots copy : Slots I L) : Type 0 where
  pub inner : (number : ℕ) → IsSlotClone inner_clone (slots.inner number) (copy.inner number)
  pub leaf : (number : ℕ) → IsSlotClone leaf_clone (slots.leaf number) (copy.leaf number)

-- A clone of a leaf has as many pairs as the leaf.
use Rattle.std.proofs.Common.{◌≡◌, List, length, ap, ◌∙◌}
use Rattle.bptree_nodes.specs.Clones.{IsLeafClone}
use Rattle.bptree_nodes.specs.Leaf.{Leaf}
use Rattle.bptree_nodes.specs.Slot.{Slot, Free, Held, Present}
use Rattle.bptree_invariant.specs.Shape.{leaf_pairs}
use Rattle.bptree_stores.specs.Clones.{IsSlotClone}

pub same_leaf_size : {K V : Type 0} (key_clone : K → K → Type 0) (value_clone : V → V → Type 0) (slot copy : Slot (Leaf K V)) → IsSlotClone (IsLeafClone key_clone value_clone) slot copy → length (leaf_pairs copy) ≡ length (leaf_pairs slot)
same_leaf_size key_clone value_clone Free copy is = ap (λ (x : Slot (Leaf _ _)). length (leaf_pairs x)) is
same_leaf_size key_clone value_clone Held copy is = ap (λ (x : Slot (Leaf _ _)). length (leaf_pairs x)) is
same_leaf_size key_clone value_clone (Present leaf) copy (other, same, is) = ap (λ (x : Slot (Leaf _ _)). length (leaf_pairs x)) same ∙ is.len

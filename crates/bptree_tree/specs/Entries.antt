-- The pair of a key, and parts of the contents.
use Rattle.std.specs.Prelude.{◌≡◌, Option, Some, List}
use Rattle.std.specs.declared.cmp.Ordering.{Ordering}
use Rattle.std.specs.Map.{keys_of, lookup_entry}
use Rattle.std.specs.Map.Iter.{deref_pair}
use Rattle.std.specs.Ordering.{is_eq}
use Rattle.bptree_keys.specs.Ranges.{between}
pub use Rattle.bptree_search.specs.Neighbours.{at_least}
use Rattle.std.specs.Borrow.{Bor}
use Rattle.std.specs.declared.ops.Bound.{Bound}
use Rattle.std.specs.Option.{option_copied}
use Rattle.bptree_propagation.specs.NodeTree.{NodeTree}
use Rattle.bptree_iter.specs.declared.part.Part.{Part}
use Rattle.bptree_nodes.specs.Inner.{Inner}
use Rattle.bptree_nodes.specs.Leaf.{Leaf}
use Rattle.bptree_nodes.specs.Slot.{Slots}
use Rattle.bptree_ranges.specs.Bounds.{between_bounds, bound_copied}
use Rattle.bptree_ranges.specs.Ranges.{IsPart}

module _ {K V : Type 0} (cmp : K → K → Ordering) where
  -- the pair whose key equals k, with the key that is stored in the list
  abbrev pub entry : List (K × V) → K → Option (K × V)
  entry l k = lookup_entry (λ key. is_eq (cmp key k)) l

-- a pair that is borrowed beside its position is that of a key
abbrev pub IsFoundAt : {P K V : Type 0} → (K → K → Ordering) → List (K × V) → K → P × (Bor K × Bor V) → Type 0
IsFoundAt cmp l k found = entry cmp l k ≡ Some (deref_pair found.1)

module _ {K V : Type 0} (cmp : K → K → Ordering) (l : List (K × V)) where
  -- the pairs between two borrowed ends, either of which may be left out
  abbrev pub pairs_between : Option (Bor K) → Option (Bor K) → List (K × V)
  pairs_between lo hi = between cmp l (option_copied lo) (option_copied hi)

  -- the pairs between two bounds whose keys are borrowed
  abbrev pub entries_within : Bound (Bor K) → Bound (Bor K) → List (K × V)
  entries_within lo hi = between_bounds cmp l (bound_copied lo) (bound_copied hi)

-- a value is a summary of the keys between two borrowed ends
abbrev pub EntriesSumUpBetween : {A K V : Type 0} → (A → List K → Type 0) → (K → K → Ordering) → List (K × V) → Option (Bor K) → Option (Bor K) → A → Type 0
EntriesSumUpBetween is_summary cmp l lo hi a = is_summary a (keys_of (pairs_between cmp l lo hi))

-- a part of a tree has these pairs
abbrev pub IsPartOf : {S K V A : Type 0} → (S → Slots (Inner K A) (Leaf K V)) → NodeTree S K V A → Part → List (K × V) → Type 0
IsPartOf slots tree part pairs = IsPart (slots tree.store) tree.height tree.root part pairs

-- The end of a list that moves to a list of its own.
use Rattle.std.specs.Prelude.{◌≡◌, Some, None, List}
use Rattle.std.specs.declared.cmp.Ordering.{Ordering}
use Rattle.bptree_keys.specs.Ranges.{between}
use Rattle.bptree_map.specs.Keys.{keys_between}

-- the pairs that are below k stay, and the others are in the other list
abbrev pub SplitsOff : {K V : Type 0} → (K → K → Ordering) → K → List (K × V) → List (K × V) → List (K × V) → Type 0
SplitsOff cmp k old new there = (new ≡ between cmp old None (Some k)) × (there ≡ between cmp old (Some k) None)

-- the keys that are below k stay, and the others are in the other set
abbrev pub SplitsKeysOff : {K : Type 0} → (K → K → Ordering) → K → List K → List K → List K → Type 0
SplitsKeysOff cmp k old new there = (new ≡ keys_between cmp old None (Some k)) × (there ≡ keys_between cmp old (Some k) None)

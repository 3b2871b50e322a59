-- The test of a cached leaf.
use Rattle.std.specs.Prelude.{IsTrue}
use Rattle.std.specs.declared.cmp.Ordering.{Ordering}
use Rattle.bptree_nodes.specs.Leaf.{Leaf, leaf_in_range}
use Rattle.bptree_nodes.specs.Slot.{Slot, Free, Held, Present}

-- the id has a leaf, and no other leaf can contain the key
abbrev pub HoldsKey : {K V : Type 0} → (K → K → Ordering) → Slot (Leaf K V) → K → Type 0
HoldsKey cmp Free k = ⊥
HoldsKey cmp Held k = ⊥
HoldsKey cmp (Present leaf) k = IsTrue (leaf_in_range cmp leaf k)

-- The pairs of leaves that move to one list.
use Rattle.std.specs.Prelude.{ℕ, List, take}
use Rattle.std.specs.declared.alloc.Global.{Global}
use Rattle.std.specs.declared.boxed.Box.{Box}
use Rattle.bptree_bulk_load.specs.Rooms.{joined, parts_of}
use Rattle.bptree_bulk.specs.Gap.{without_part}
use Rattle.bptree_nodes.specs.Leaf.{Leaf}

module _ {K V : Type 0} where
  -- the pairs of the first leaves
  abbrev pub poured : ℕ → List (Box (Leaf K V) Global) → List (K × V)
  poured count leaves = joined (parts_of (take count leaves))

  -- the pairs of the first leaves, without those from one index up to another
  abbrev pub poured_around : ℕ → ℕ → ℕ → List (Box (Leaf K V) Global) → List (K × V)
  poured_around before behind count leaves = without_part before behind (poured count leaves)

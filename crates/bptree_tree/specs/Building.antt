-- Leaves that get their pairs before the nodes above them are made.
use Rattle.std.specs.Prelude.{◌≡◌, ℕ, ◌<◌, ◌≤◌, ◌^◌, List, [], length}
use Rattle.std.specs.declared.alloc.Global.{Global}
use Rattle.std.specs.declared.boxed.Box.{Box}
use Rattle.std.specs.declared.cmp.Ordering.{Ordering}
use Rattle.std.specs.List.{AllByRecursion}
use Rattle.bptree_bulk_load.specs.Rooms.{joined, parts_of}
use Rattle.bptree_bulk.specs.Filling.{AreParts, HaveRooms}
use Rattle.bptree_keys.specs.Contents.{IsAscending}
use Rattle.bptree_nodes.specs.Leaf.{Leaf}

module _ {K V : Type 0} where
  -- there is an empty leaf for each part of so many pairs
  abbrev pub HaveRoomsFor : ℕ → List (Box (Leaf K V) Global) → Type 0
  HaveRoomsFor count rooms = (pairs : List (K × V)) → length pairs ≡ count → HaveRooms pairs rooms

  module _ (cmp : K → K → Ordering) where
    -- the leaf has a pair, and its pairs ascend
    abbrev pub IsFilledLeaf : Box (Leaf K V) Global → Type 0
    IsFilledLeaf leaf = (0 < length leaf.value.pairs) × IsAscending cmp leaf.value.pairs

    -- these can be all the leaves of a tree
    pub record AreAllLeaves (leaves : List (Box (Leaf K V) Global)) : Type 0 where
      pub some : 0 < length leaves
      pub filled : AllByRecursion IsFilledLeaf leaves
      pub many : 1 < length (parts_of leaves) → AllByRecursion (λ (part : List (K × V)). 16 ≤ length part) (parts_of leaves)
      pub ascending : IsAscending cmp (joined (parts_of leaves))
      pub few : length (joined (parts_of leaves)) < 2 ^ 64

    -- the leaves have the parts of these pairs, which ascend
    pub record HaveAll (leaves : List (Box (Leaf K V) Global)) (pairs : List (K × V)) : Type 0 where
      pub are : AreParts pairs (parts_of leaves) []
      pub some : 0 < length pairs
      pub ascending : IsAscending cmp pairs
      pub few : length pairs < 2 ^ 64

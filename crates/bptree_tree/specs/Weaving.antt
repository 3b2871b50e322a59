-- The pairs of two trees that move to leaves that others left empty.
use Rattle.std.specs.Prelude.{◌≡◌, ℕ, ◌+◌, ◌-◌, ◌*◌, ◌≤◌, ◌++◌, Option, List, [], ◌∷◌, length, reverse, vec_len}
use Rattle.std.specs.declared.alloc.Global.{Global}
use Rattle.std.specs.declared.boxed.Box.{Box}
use Rattle.std.specs.declared.cmp.Ordering.{Ordering}
use Rattle.std.specs.declared.vec.Vec.{Vec}
use Rattle.bptree_bulk_load.specs.Rooms.{parts_of}
use Rattle.bptree_bulk.specs.Filling.{AreParts}
use Rattle.bptree_bulk.specs.Weave.{next_source, woven, Goes, WeaveLeadsOn, Weaves}
use Rattle.bptree_bulk.specs.declared.weaving.Source.{Source}
use Rattle.bptree_nodes.specs.Leaf.{Leaf}
use Rattle.bptree_tree.specs.declared.weaving.Feed.{Feed}

-- a list has room for as many leaves as these pairs have parts
abbrev pub HasRoomForParts : {X : Type 0} → List X → ℕ → Type 0
HasRoomForParts {X} pairs room = (parts : List (List X)) × AreParts pairs parts [] × (length parts ≤ room)

-- a leaf of these pairs comes behind others
abbrev pub AddsWovenLeaf : {K V : Type 0} → List (Box (Leaf K V) Global) → List (K × V) → List (Box (Leaf K V) Global) → Type 0
AddsWovenLeaf old pairs new = parts_of new ≡ parts_of old ++ pairs ∷ []

-- If leaves that are not empty have room for `more` pairs, and that is enough for those that are
-- taken, there still is room for 128 pairs beside those in open leaves. An empty leaf is room for 64.
abbrev pub RoomStays : (spare opened spare' opened' taken : ℕ) → Type 0
RoomStays spare opened spare' opened' taken = (more : ℕ) → taken ≤ more → 128 + opened ≤ 64 * spare + more → 128 + (opened' + taken) ≤ 64 * spare' + more

module _ {S K V A : Type 0} where
  -- the pairs that have not moved
  abbrev pub left_of : Feed S K V A → List (K × V)
  left_of feed = reverse feed.front.value.pairs ++ feed.leaves

  -- the number of pairs in both open leaves
  abbrev pub open_pairs : Feed S K V A → Feed S K V A → ℕ
  open_pairs first second = length first.front.value.pairs + length second.front.value.pairs

  -- the pairs of all steps
  abbrev pub woven_of : List Source → Feed S K V A → Feed S K V A → List (K × V)
  woven_of steps first second = woven steps (left_of first) (left_of second)

  module _ {X Z : Type 0} where
    -- there is as much room as before one pair was taken, whatever another open leaf has
    abbrev pub KeepsRoomBeside : Vec X Z → Feed S K V A → Vec X Z → Feed S K V A → Type 0
    KeepsRoomBeside spare old spare' new = (other : ℕ) → other ≤ 64 → RoomStays (vec_len spare) (length old.front.value.pairs + other) (vec_len spare') (length new.front.value.pairs + other) 1

    -- there is as much room as before so many pairs were taken
    abbrev pub KeepsRoom : Vec X Z → Feed S K V A → Feed S K V A → Vec X Z → Feed S K V A → Feed S K V A → ℕ → Type 0
    KeepsRoom spare first second spare' first' second' taken = RoomStays (vec_len spare) (open_pairs first second) (vec_len spare') (open_pairs first' second') taken

    -- so it is, but for one spare leaf that these pairs moved to
    abbrev pub KeepsOtherRoom : Vec X Z → Feed S K V A → Feed S K V A → Vec X Z → Feed S K V A → Feed S K V A → ℕ → Type 0
    KeepsOtherRoom spare first second spare' first' second' taken = RoomStays (vec_len spare - 1) (open_pairs first second) (vec_len spare') (open_pairs first' second') taken

  module _ (cmp : K → K → Ordering) where
    -- the source of the next pair, if there is one
    abbrev pub next_of : Feed S K V A → Feed S K V A → Option Source
    next_of first second = next_source cmp (left_of first) (left_of second)

    -- the steps lead to some rest of both; to this rest; or they take all pairs
    abbrev pub FeedsLeadOn : List Source → Feed S K V A → Feed S K V A → Type 0
    FeedsLeadOn steps first second = WeaveLeadsOn cmp steps (left_of first) (left_of second)

    abbrev pub FeedsGo : List Source → Feed S K V A → Feed S K V A → Feed S K V A → Feed S K V A → Type 0
    FeedsGo steps first second first' second' = Goes cmp steps (left_of first) (left_of second) (left_of first') (left_of second')

    abbrev pub FeedsEnd : List Source → Feed S K V A → Feed S K V A → Type 0
    FeedsEnd steps first second = Weaves cmp steps (left_of first) (left_of second)

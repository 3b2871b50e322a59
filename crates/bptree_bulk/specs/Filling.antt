-- Pairs that move one by one to the leaves of a new tree.
use Rattle.std.specs.Prelude.{◌≡◌, ℕ, ◌<◌, ◌≤◌, ◌^◌, ◌++◌, List, [], ◌∷◌, length, take, drop, Result, IfOk}
use Rattle.std.specs.List.{AllByRecursion}
use Rattle.std.specs.declared.alloc.Global.{Global}
use Rattle.std.specs.declared.boxed.Box.{Box}
use Rattle.std.specs.declared.cmp.Ordering.{Ordering}
use Rattle.bptree_bulk_load.specs.Rooms.{parts_of, ArePlanned, IsFrame}
use Rattle.bptree_bulk_load.specs.declared.plan.Plan.{Plan}
use Rattle.bptree_bulk.specs.Positions.{rest_of}
use Rattle.bptree_bulk.specs.Split.{HasLeavesFor}
use Rattle.bptree_bulk.specs.declared.filling.Filling.{Filling}
use Rattle.bptree_keys.specs.Contents.{IsAscending}
use Rattle.bptree_keys.specs.declared.node_id.Position.{Position}
use Rattle.bptree_nodes.specs.Inner.{Inner}
use Rattle.bptree_nodes.specs.Leaf.{Leaf}
use Rattle.bptree_nodes.specs.Slot.{Slots}
use Rattle.bptree_invariant.specs.NodeTree.{NodeTree}

-- the number of pairs, of so many, that the next leaf takes
pub record IsSize (left size : ℕ) : Type 0 where
  pub all : left ≤ 64 → size ≡ left
  pub half : 64 < left → left ≤ 128 → size ≡ 32
  pub full : 128 < left → size ≡ 64

-- the parts are the first of these pairs, each for one leaf, and the rest is behind them
abbrev pub AreParts : {X : Type 0} → List X → List (List X) → List X → Type 0
AreParts l [] rest = l ≡ rest
AreParts l (p ∷ ps) rest = (n : ℕ) × IsSize (length l) n × (0 < length l) × (p ≡ take n l) × AreParts (drop n l) ps rest

-- a leaf without a pair
abbrev pub IsEmptyLeaf : {K V : Type 0} → Box (Leaf K V) Global → Type 0
IsEmptyLeaf leaf = leaf.value.pairs ≡ []

-- there is an empty leaf for each part of these pairs
abbrev pub HaveRooms : {K V : Type 0} → List (K × V) → List (Box (Leaf K V) Global) → Type 0
HaveRooms {K} {V} pairs rooms = (parts : List (List (K × V))) × AreParts pairs parts [] × (length rooms ≡ length parts)

-- leaves of the parts of these pairs come behind others
abbrev pub TakeParts : {K V : Type 0} → List (K × V) → List (Box (Leaf K V) Global) → List (Box (Leaf K V) Global) → Type 0
TakeParts {K} {V} pairs old new = (parts : List (List (K × V))) → AreParts pairs parts [] → parts_of new ≡ parts_of old ++ parts

module _ {S K V A : Type 0} (cmp : K → K → Ordering) (is_summary : A → List K → Type 0) (slots : S → Slots (Inner K A) (Leaf K V)) where
  -- a leaf is planned for each part of these pairs, and there are as many empty leaves
  pub record IsLaidOut (plan : Plan S K V A) (rooms : List (Box (Leaf K V) Global)) (count : ℕ) (pairs : List (K × V)) : Type 0 where
    pub parts : List (List (K × V))
    pub are : AreParts pairs parts []
    pub planned : ArePlanned cmp is_summary (slots plan.store) plan.ids.items plan.trees.items parts
    pub empty : AllByRecursion IsEmptyLeaf rooms
    pub as_many : length rooms ≡ length parts
    pub count_is : count ≡ length pairs
    pub some : 0 < count
    pub ascending : IsAscending cmp pairs
    pub few : count < 2 ^ 64

  -- everything is ready to move these pairs to a tree of their own
  pub record IsFilling (filling : Filling S K V A) (pairs : List (K × V)) : Type 0 where
    pub parts : List (List (K × V))
    pub are : AreParts pairs parts []
    pub framed : IsFrame cmp is_summary (slots filling.frame.store) filling.frame.ids.items filling.frame.built parts
    pub empty : AllByRecursion IsEmptyLeaf filling.rooms.items
    pub as_many : length filling.rooms.items ≡ length parts
    pub leaves : HasLeavesFor (length parts) filling.leaves
    pub count : filling.count ≡ length pairs
    pub ascending : IsAscending cmp pairs

  -- the leaves of a plan are for some pairs, which are so many
  abbrev pub AreLaidOut : Plan S K V A → List (Box (Leaf K V) Global) → ℕ → Type 0
  AreLaidOut plan rooms count = (pairs : List (K × V)) × IsLaidOut plan rooms count pairs

  -- a call that succeeded prepares everything to move the pairs that the leaves of a plan are for
  abbrev pub Fills : {E : Type 0} → Plan S K V A → List (Box (Leaf K V) Global) → ℕ → Result (Filling S K V A) E → Type 0
  Fills plan rooms count result = IfOk result (λ filling. (pairs : List (K × V)) → IsLaidOut plan rooms count pairs → IsFilling filling pairs)

  module _ (tree : NodeTree S K V A) where
    -- the pairs that move are those of a tree from a position on, or all of them
    abbrev pub FillsFrom : Position → Filling S K V A → Type 0
    FillsFrom at filling = IsFilling filling (rest_of slots tree at)

    abbrev pub FillsAll : Filling S K V A → Type 0
    FillsAll filling = IsFilling filling tree.contents

-- Everything that is prepared before a tree is cut in two.
use Rattle.std.specs.Prelude.{◌≡◌, ℕ, ◌+◌, ◌-◌, ◌<◌, ◌≤◌, ◌^◌, List, [], None, Some, length, take, drop, vec_capacity, vec_len}
use Rattle.std.specs.declared.cmp.Ordering.{Ordering}
use Rattle.std.specs.declared.vec.Vec.{Vec}
use Rattle.bptree_bulk_load.specs.Plans.{Frames}
use Rattle.bptree_bulk_load.specs.Rooms.{joined, parts_of}
use Rattle.bptree_bulk_load.specs.declared.planting.Frame.{Frame}
use Rattle.bptree_bulk.specs.Cut.{cut_at, lower_parts, upper_parts, IsCut}
use Rattle.bptree_bulk.specs.Positions.{index_of_position}
use Rattle.bptree_bulk.specs.declared.cut.Cut.{Cut}
use Rattle.bptree_bulk.specs.declared.splitting.Ready.{Ready}
use Rattle.bptree_bulk.specs.declared.splitting.Side.{Side}
use Rattle.bptree_bulk.specs.declared.splitting.Split.{Split}
use Rattle.bptree_keys.specs.Contents.{IsAscending}
use Rattle.bptree_keys.specs.Ranges.{between}
use Rattle.bptree_keys.specs.declared.node_id.LeafNodeId.{LeafNodeId}
use Rattle.bptree_keys.specs.declared.node_id.Position.{Position}
use Rattle.bptree_nodes.specs.Inner.{Inner}
use Rattle.bptree_nodes.specs.Leaf.{Leaf}
use Rattle.bptree_nodes.specs.Slot.{Slots}
use Rattle.bptree_invariant.specs.NodeTree.{NodeTree}
use Rattle.bptree_invariant.specs.Shape.{leaves_at}

-- an empty list with room for so many
abbrev pub HasLeavesFor : {X Z : Type 0} → ℕ → Vec X Z → Type 0
HasLeavesFor count list = (list.items ≡ []) × (vec_len list ≡ 0) × (count ≤ vec_capacity list)

-- the empty leaves of a side, and the list of all its leaves, of which so many move as they are
pub record HasRoom {S K V A : Type 0} (side : Side S K V A) (count : ℕ) : Type 0 where
  pub one : side.rooms.0.value.pairs ≡ []
  pub other : side.rooms.1.value.pairs ≡ []
  pub list : HasLeavesFor (count + 2) side.leaves

module _ {S K V A : Type 0} (cmp : K → K → Ordering) (is_summary : A → List K → Type 0) (slots : S → Slots (Inner K A) (Leaf K V)) (tree : NodeTree S K V A) where
  -- a frame for the leaves on one side of a cut
  abbrev pub FramesLower : List LeafNodeId → Cut → Frame S K V A → Type 0
  FramesLower ids cut frame = Frames cmp is_summary slots frame (lower_parts (slots tree.store) ids cut)

  abbrev pub FramesUpper : List LeafNodeId → Cut → Frame S K V A → Type 0
  FramesUpper ids cut frame = Frames cmp is_summary slots frame (upper_parts (slots tree.store) ids cut)

module _ {S K V A : Type 0} (cmp : K → K → Ordering) (is_summary : A → List K → Type 0) (slots : S → Slots (Inner K A) (Leaf K V)) (tree : NodeTree S K V A) (n : ℕ) where
  -- everything is ready to cut the tree behind so many pairs
  pub record IsTreeSplit (split : Split S K V A) : Type 0 where
    pub ids : split.ids.items ≡ leaves_at (slots tree.store) tree.height tree.root
    pub cut : IsCut (slots tree.store) split.ids.items split.cut
    pub index : cut_at (slots tree.store) split.ids.items split.cut ≡ n
    pub lower : FramesLower cmp is_summary slots tree split.ids.items split.cut split.lower.frame
    pub upper : FramesUpper cmp is_summary slots tree split.ids.items split.cut split.upper.frame
    pub lower_room : HasRoom split.lower split.cut.from
    pub upper_room : HasRoom split.upper (length split.ids.items - split.cut.to)
    pub leaves : HasLeavesFor (length split.ids.items) split.leaves
    pub pairs : HasLeavesFor (split.cut.below + split.cut.above) split.pairs

-- the frame is one for these leaves, and these are the leaves' pairs
pub record IsReady {S K V A : Type 0} (cmp : K → K → Ordering) (is_summary : A → List K → Type 0) (slots : S → Slots (Inner K A) (Leaf K V)) (ready : Ready S K V A) (pairs : List (K × V)) : Type 0 where
  pub framed : Frames cmp is_summary slots ready.frame (parts_of ready.leaves.items)
  pub are : joined (parts_of ready.leaves.items) ≡ pairs

module _ {S K V A : Type 0} (cmp : K → K → Ordering) (is_summary : A → List K → Type 0) (slots : S → Slots (Inner K A) (Leaf K V)) where
  -- the pairs of the leaves ascend, and a tree can hold as many
  abbrev pub CanBeStored : Ready S K V A → Type 0
  CanBeStored ready = (pairs : List (K × V)) × IsReady cmp is_summary slots ready pairs × IsAscending cmp pairs × (length pairs < 2 ^ 64)

  -- these are the pairs of the leaves
  abbrev pub HasPairs : Ready S K V A → List (K × V) → Type 0
  HasPairs ready found = (pairs : List (K × V)) → IsReady cmp is_summary slots ready pairs → found ≡ pairs

  module _ (tree : NodeTree S K V A) where
    -- everything is ready to cut the tree before the pair at a position, or before some pair
    abbrev pub IsSplitAt : Position → Split S K V A → Type 0
    IsSplitAt at split = IsTreeSplit cmp is_summary slots tree (index_of_position slots tree at) split

    abbrev pub IsSplitSomewhere : Split S K V A → Type 0
    IsSplitSomewhere split = (n : ℕ) × IsTreeSplit cmp is_summary slots tree n split

    module _ (split : Split S K V A) where
      -- the leaves are ready for one side of the cut
      abbrev pub ReadiesLower : Ready S K V A → Type 0
      ReadiesLower ready = (n : ℕ) → IsTreeSplit cmp is_summary slots tree n split → IsReady cmp is_summary slots ready (take n tree.contents)

      abbrev pub ReadiesUpper : Ready S K V A → Type 0
      ReadiesUpper ready = (n : ℕ) → IsTreeSplit cmp is_summary slots tree n split → IsReady cmp is_summary slots ready (drop n tree.contents)

      -- these are the pairs of one side of the cut
      abbrev pub AreLower : List (K × V) → Type 0
      AreLower found = (n : ℕ) → IsTreeSplit cmp is_summary slots tree n split → found ≡ take n tree.contents

      abbrev pub AreUpper : List (K × V) → Type 0
      AreUpper found = (n : ℕ) → IsTreeSplit cmp is_summary slots tree n split → found ≡ drop n tree.contents

-- the pairs below k are in the first list, and the others in the second
abbrev pub PartsAt : {K V : Type 0} → (K → K → Ordering) → K → List (K × V) → List (K × V) → List (K × V) → Type 0
PartsAt cmp k all lower upper = (lower ≡ between cmp all None (Some k)) × (upper ≡ between cmp all (Some k) None)

-- Everything that is prepared before pairs of a tree are removed.
use Rattle.std.specs.Prelude.{◌≡◌, ℕ, ◌+◌, ◌-◌, List, [], ◌++◌, length, map, take, drop}
use Rattle.std.specs.List.{AllByRecursion}
use Rattle.std.specs.declared.cmp.Ordering.{Ordering}
use Rattle.bptree_bulk_load.specs.Plans.{Frames}
use Rattle.bptree_bulk_load.specs.Rooms.{pairs_under}
use Rattle.bptree_bulk.specs.Filling.{AreParts, IsEmptyLeaf}
use Rattle.bptree_bulk.specs.Gap.{gap_begins, gap_ends, kept_of, without_part, IsGap}
use Rattle.bptree_bulk.specs.Positions.{index_of_position}
use Rattle.bptree_bulk.specs.Split.{HasLeavesFor, IsReady}
use Rattle.bptree_bulk.specs.declared.gap.Gap.{Gap}
use Rattle.bptree_bulk.specs.declared.removing.Removal.{Removal}
use Rattle.bptree_bulk.specs.declared.splitting.Ready.{Ready}
use Rattle.bptree_keys.specs.declared.node_id.LeafNodeId.{LeafNodeId}
use Rattle.bptree_keys.specs.declared.node_id.Position.{Position}
use Rattle.bptree_nodes.specs.Inner.{Inner}
use Rattle.bptree_nodes.specs.Leaf.{Leaf}
use Rattle.bptree_nodes.specs.Slot.{Slots}
use Rattle.bptree_invariant.specs.Leaves.{pairs_of}
use Rattle.bptree_invariant.specs.NodeTree.{NodeTree}
use Rattle.bptree_invariant.specs.Shape.{leaves_at}

module _ {K V A : Type 0} (slots : Slots (Inner K A) (Leaf K V)) (ids : List LeafNodeId) (gap : Gap) where
  -- the border's pairs that stay
  abbrev pub border_kept : List (K × V)
  border_kept = kept_of gap (pairs_of slots (drop gap.from ids))

  -- the pairs of each leaf, if the border's pairs that stay are split into these parts
  abbrev pub parts_around : List (List (K × V)) → List (List (K × V))
  parts_around parts = map (pairs_under slots) (take gap.from ids) ++ (parts ++ map (pairs_under slots) (drop gap.to ids))

module _ {S K V A : Type 0} (cmp : K → K → Ordering) (is_summary : A → List K → Type 0) (slots : S → Slots (Inner K A) (Leaf K V)) (tree : NodeTree S K V A) where
  -- everything is ready to drop the pairs from one index up to another
  pub record IsRemoval (from to : ℕ) (removal : Removal S K V A) : Type 0 where
    pub ids : removal.ids.items ≡ leaves_at (slots tree.store) tree.height tree.root
    pub gap : IsGap (slots tree.store) removal.ids.items removal.gap
    pub begins : gap_begins (slots tree.store) removal.ids.items removal.gap ≡ from
    pub ends : gap_ends (slots tree.store) removal.ids.items removal.gap ≡ to
    pub parts : List (List (K × V))
    pub are : AreParts (border_kept (slots tree.store) removal.ids.items removal.gap) parts []
    pub framed : Frames cmp is_summary slots removal.frame (parts_around (slots tree.store) removal.ids.items removal.gap parts)
    pub empty : AllByRecursion IsEmptyLeaf removal.rooms.items
    pub as_many : length removal.rooms.items ≡ length parts
    pub leaves : HasLeavesFor (removal.gap.from + length parts + (length removal.ids.items - removal.gap.to)) removal.leaves
    pub old : HasLeavesFor (length removal.ids.items) removal.old
    pub pairs : HasLeavesFor removal.gap.count removal.pairs

  -- everything is ready to drop the pairs between two positions, or between some indexes
  abbrev pub IsRemovalBetween : Position → Position → Removal S K V A → Type 0
  IsRemovalBetween lo hi removal = IsRemoval (index_of_position slots tree lo) (index_of_position slots tree hi) removal

  abbrev pub IsRemovalSomewhere : Removal S K V A → Type 0
  IsRemovalSomewhere removal = (from : ℕ) × (to : ℕ) × IsRemoval from to removal

  module _ (removal : Removal S K V A) where
    -- the leaves are ready for the pairs that stay
    abbrev pub ReadiesAround : Ready S K V A → Type 0
    ReadiesAround ready = (from to : ℕ) → IsRemoval from to removal → IsReady cmp is_summary slots ready (without_part from to tree.contents)

    -- these are the pairs that stay
    abbrev pub AreKept : List (K × V) → Type 0
    AreKept found = (from to : ℕ) → IsRemoval from to removal → found ≡ without_part from to tree.contents

-- New leaves for the pairs on both sides of a gap.
use Rattle.std.specs.Prelude.{◌≡◌, ℕ, ◌-◌, ◌++◌, List, [], length, Result}
use Rattle.std.specs.List.{AllByRecursion}
use Rattle.std.specs.Map.{keys_of}
use Rattle.std.specs.declared.alloc.Global.{Global}
use Rattle.std.specs.declared.boxed.Box.{Box}
use Rattle.std.specs.declared.cmp.Ordering.{Ordering}
use Rattle.std.specs.declared.vec.Vec.{Vec}
use Rattle.bptree_bulk_load.specs.Plans.{AddsPlan, AddsParts}
use Rattle.bptree_bulk_load.specs.declared.plan.Plan.{Plan}
use Rattle.bptree_bulk.specs.Filling.{AreParts, IsEmptyLeaf}
use Rattle.bptree_bulk.specs.Gap.{without_part}
use Rattle.bptree_keys.specs.Ranges.{part}
use Rattle.bptree_keys.specs.declared.node_id.LeafNodeId.{LeafNodeId}
use Rattle.bptree_nodes.specs.Inner.{Inner}
use Rattle.bptree_nodes.specs.Leaf.{Leaf}
use Rattle.bptree_nodes.specs.Slot.{Slots}
use Rattle.bptree_invariant.specs.Leaves.{pairs_of}
use Rattle.bptree_invariant.specs.NodeTree.{NodeTree}

module _ {S K V A : Type 0} (cmp : K → K → Ordering) (is_summary : A → List K → Type 0) (slots : S → Slots (Inner K A) (Leaf K V)) (kept : List (K × V)) where
  -- leaves for the parts of these pairs are planned behind others, and an empty leaf is there for each
  abbrev pub PlansBorder : {Z : Type 0} → Plan S K V A → Plan S K V A → Vec (Box (Leaf K V) Global) Z → Type 0
  PlansBorder old new rooms = (parts : List (List (K × V))) × AreParts kept parts [] × AddsParts cmp is_summary slots old new parts × AllByRecursion IsEmptyLeaf rooms.items × (length rooms.items ≡ length parts)

module _ {S K V A : Type 0} (slots : S → Slots (Inner K A) (Leaf K V)) (tree : NodeTree S K V A) (ids : List LeafNodeId) where
  -- the pairs of these leaves without those from one index up to another
  abbrev pub pairs_around : ℕ → ℕ → List (K × V)
  pairs_around before behind = without_part before behind (pairs_of (slots tree.store) ids)

module _ {S K V A : Type 0} (is_summary : A → List K → Type 0) (slots : S → Slots (Inner K A) (Leaf K V)) (tree : NodeTree S K V A) (ids : List LeafNodeId) where
  -- a summary of the keys of so many of their pairs
  abbrev pub SumsUpPart : ℕ → ℕ → A → Type 0
  SumsUpPart from count sum = is_summary sum (keys_of (part (pairs_of (slots tree.store) ids) from count))

module _ {S K V A : Type 0} (cmp : K → K → Ordering) (is_summary : A → List K → Type 0) (slots : S → Slots (Inner K A) (Leaf K V)) (tree : NodeTree S K V A) (ids : List LeafNodeId) where
  -- a call that succeeded plans a leaf for so many pairs before an index, and so many from another one on
  abbrev pub AddsAcross : {E : Type 0} → ℕ → ℕ → ℕ → ℕ → Plan S K V A → Plan S K V A → Result Unit E → Type 0
  AddsAcross before behind one other old new result = AddsPlan cmp is_summary slots old new (part (pairs_of (slots tree.store) ids) (before - one) one ++ part (pairs_of (slots tree.store) ids) behind other) result

  -- a call that succeeded plans a leaf for so many of the pairs that stay around two indexes
  abbrev pub AddsAround : {E : Type 0} → ℕ → ℕ → ℕ → ℕ → Plan S K V A → Plan S K V A → Result Unit E → Type 0
  AddsAround before behind from count old new result = AddsPlan cmp is_summary slots old new (part (pairs_around slots tree ids before behind) from count) result

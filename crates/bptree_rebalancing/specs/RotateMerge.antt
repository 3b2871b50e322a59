-- A parent and two of its children after these rotated or merged.
use Rattle.std.specs.Prelude.{◌≡◌, ℕ, ◌+◌, ◌<◌, ◌≤◌, List, length, slice_get, Option, Some}
use Rattle.std.specs.declared.cmp.Ordering.{Ordering}
use Rattle.bptree_nodes.specs.Inner.{Inner}
use Rattle.bptree_nodes.specs.Leaf.{Leaf}
use Rattle.bptree_nodes.specs.Slot.{Slot, Slots, Held, Present, UpdatesInner}
use Rattle.bptree_keys.specs.declared.node_id.InnerNodeId.{InnerNodeId}
use Rattle.bptree_keys.specs.declared.node_id.LeafNodeId.{LeafNodeId}
use Rattle.bptree_keys.specs.declared.node_id.NodeId.{NodeId}
use Rattle.bptree_keys.specs.declared.node_id.NodeId.TheVariants as kind
use Rattle.bptree_propagation.specs.Change.{StartsAt}
use Rattle.bptree_propagation.specs.LeafChange.{SumsUpLeaf}
use Rattle.bptree_rebalancing.specs.Transfer.{CanGive, CanGiveMany, MovesPairs, MergesLeaf, MovesChild, MergesInner, HasEntry, Rotates, Merges, ExchangesJoint}
use Rattle.bptree_propagation.specs.Sums.{SumsUp, IndexAt}
use Rattle.bptree_propagation.specs.declared.node_changes.SummaryUpdate.{SummaryUpdate}
use Rattle.bptree_invariant.specs.Shape.{leaf_pairs, leaf_next, inner_keys, inner_children}
use Rattle.bptree_rebalancing.specs.declared.rotate_merge.ParentEntry.{ParentEntry}
use Rattle.bptree_rebalancing.specs.declared.rotate_merge.Sibling.{Sibling}
use Rattle.bptree_rebalancing.specs.declared.rotate_merge.ChildSummaries.{ChildSummaries}

module _ {K V A : Type 0} (cmp : K → K → Ordering) (is_summary : A → List K → Type 0) where
  -- two leaves rotated `count` pairs, and another entry replaced the one between them in the parent
  pub record RotatesLeaves (giver : Sibling) (count slot : ℕ) (node : Inner K A) (left right : Leaf K V) (node' : Inner K A) (left' right' : Leaf K V) (joint : ParentEntry K A) : Type 0 where
    pub bare : Inner K A
    pub child : NodeId
    pub entry : HasEntry node bare slot joint.separator child joint.right
    pub moves : MovesPairs giver count left right left' right'
    pub rotates : Rotates cmp bare slot child (SumsUpLeaf cmp is_summary left'.pairs) (λ s. StartsAt cmp s right'.pairs) (SumsUpLeaf cmp is_summary right'.pairs) node' joint.left

  -- the summaries of two leaves, and a separator between them
  pub record ReportsLeaves (left right : Leaf K V) (joint : ParentEntry K A) : Type 0 where
    pub reported_left : SumsUpLeaf cmp is_summary left.pairs joint.left
    pub separates : StartsAt cmp joint.separator right.pairs
    pub reported_right : SumsUpLeaf cmp is_summary right.pairs joint.right

  -- a node takes the new summary of a leaf below it
  abbrev pub TakesLeaf : Inner K A → ℕ → Leaf K V → Inner K A → SummaryUpdate A → Type 0
  TakesLeaf old slot leaf new sums = Merges old slot (SumsUpLeaf cmp is_summary leaf.pairs) new sums.old

  -- two leaves merged, and the parent lost an entry
  pub record MergesLeaves (slot : ℕ) (node : Inner K A) (left right : Leaf K V) (node' : Inner K A) (left' right' : Leaf K V) (joint : ParentEntry K A) : Type 0 where
    pub bare : Inner K A
    pub child : NodeId
    pub entry : HasEntry node bare slot joint.separator child joint.right
    pub leaves : MergesLeaf left right left' right'
    pub merges : Merges bare slot (SumsUpLeaf cmp is_summary left'.pairs) node' joint.left

module _ {K A : Type 0} (cmp : K → K → Ordering) (is_summary : A → List K → Type 0) where
  -- two inner nodes rotated a child, through the parent
  pub record RotatesInners (giver : Sibling) (slot : ℕ) (node left right node' left' right' : Inner K A) (sides : ChildSummaries A) : Type 0 where
    pub bare : Inner K A
    pub child : NodeId
    pub separator : K
    pub up : K
    pub some : (0 < length left.children) × (0 < length right.children)
    pub entry : HasEntry node bare slot separator child sides.right
    pub moves : MovesChild giver left separator right left' up right'
    pub rotates : Rotates cmp bare slot child (SumsUp cmp is_summary left') (λ s. s ≡ up) (SumsUp cmp is_summary right') node' sides.left

  -- a node takes the summaries of two inner nodes below it, with a separator between them
  -- (`TakesInners`), or the new summary of one (`TakesInner`)
  abbrev pub TakesInners : Inner K A → ℕ → NodeId → Inner K A → K → Inner K A → Inner K A → SummaryUpdate A → Type 0
  TakesInners old slot child left separator right new sums =
      Rotates cmp old slot child (SumsUp cmp is_summary left) (λ s. s ≡ separator) (SumsUp cmp is_summary right) new sums.old

  abbrev pub TakesInner : Inner K A → ℕ → Inner K A → Inner K A → SummaryUpdate A → Type 0
  TakesInner old slot child new sums = Merges old slot (SumsUp cmp is_summary child) new sums.old

  -- two inner nodes merged, and the parent lost an entry
  pub record MergesInners (slot : ℕ) (node left right node' left' right' : Inner K A) (sides : ChildSummaries A) : Type 0 where
    pub bare : Inner K A
    pub child : NodeId
    pub separator : K
    pub long : (length left.children ≡ length left.keys + 1) × (length left.arguments ≡ length left.children)
    pub entry : HasEntry node bare slot separator child sides.right
    pub nodes : MergesInner left separator right left' right'
    pub merges : Merges bare slot (SumsUp cmp is_summary left') node' sides.left

-- A parent and two children that rotated or merged are again what they were. Before a merge, the
-- left child had `kept` pairs or keys, the right one was `child`, and the link of a left leaf was
-- `next`.
module _ {K V A : Type 0} (cmp : K → K → Ordering) (is_summary : A → List K → Type 0) (slot : ℕ) (joint : ParentEntry K A) (node : Inner K A) (left right : Leaf K V) (node' : Inner K A) (left' right' : Leaf K V) where
  abbrev pub UndoesMergeLeaves : NodeId → ℕ → Option LeafNodeId → Type 0
  UndoesMergeLeaves child kept next =
      (was : Inner K A) (one other : Leaf K V) → MergesLeaves cmp is_summary slot was one other node left right joint → slice_get was.children (slot + 1) ≡ Some child → kept ≡ length one.pairs → next ≡ one.next → (node' ≡ was) × (left' ≡ one) × (right' ≡ other)

module _ {K A : Type 0} (cmp : K → K → Ordering) (is_summary : A → List K → Type 0) (slot : ℕ) (sides : ChildSummaries A) (node left right node' left' right' : Inner K A) where
  abbrev pub UndoesRotateInners : Sibling → Type 0
  UndoesRotateInners giver = (was one other : Inner K A) → RotatesInners cmp is_summary giver slot was one other node left right sides → (node' ≡ was) × (left' ≡ one) × (right' ≡ other)

  abbrev pub UndoesMergeInners : NodeId → ℕ → Type 0
  UndoesMergeInners child kept =
      (was one other : Inner K A) → MergesInners cmp is_summary slot was one other node left right sides → slice_get was.children (slot + 1) ≡ Some child → kept ≡ length one.keys → (node' ≡ was) × (left' ≡ one) × (right' ≡ other)

-- two inner nodes have different ids, which differ from that of the node above them, and this node
-- has an entry between the two
pub record AreInnersBeside {K V A : Type 0} (slots : Slots (Inner K A) (Leaf K V)) (slot : ℕ) (id left right : InnerNodeId) : Type 0 where
  pub index : IndexAt (slots.inner id.0) (slot + 1)
  pub most : length (inner_keys (slots.inner id.0)) ≤ 64
  pub left_some : 0 < length (inner_children (slots.inner left.0))
  pub right_some : 0 < length (inner_children (slots.inner right.0))
  pub apart : (left.0 ≡ right.0 → ⊥) × (left.0 ≡ id.0 → ⊥) × (right.0 ≡ id.0 → ⊥)

-- `count` pairs of one leaf moved to its sibling
pub record MovesPairsAt {K V A : Type 0} (old new : Slots (Inner K A) (Leaf K V)) (giver : Sibling) (count : ℕ) (left right : LeafNodeId) : Type 0 where
  pub one : Leaf K V
  pub other : Leaf K V
  pub one' : Leaf K V
  pub other' : Leaf K V
  pub at_left : old.leaf left.0 ≡ Present one
  pub at_right : old.leaf right.0 ≡ Present other
  pub is_left : new.leaf left.0 ≡ Present one'
  pub is_right : new.leaf right.0 ≡ Present other'
  pub leaves : (n : ℕ) → (n ≡ left.0 → ⊥) → (n ≡ right.0 → ⊥) → new.leaf n ≡ old.leaf n
  pub inner : new.inner ≡ old.inner
  pub can : CanGiveMany giver count (length one.pairs) (length other.pairs)
  pub moves : MovesPairs giver count one other one' other'

-- the slots of a node and of two children of it, before and after a change; `behind` is the slot of
-- the right child after it
pub record ThreeAt {K A C : Type 0} (above above' : ℕ → Slot (Inner K A)) (below below' : ℕ → Slot C) (id left right : ℕ) (behind : Slot C) : Type 0 where
  pub node : Inner K A
  pub one : C
  pub other : C
  pub node' : Inner K A
  pub one' : C
  pub at_node : above id ≡ Present node
  pub at_left : below left ≡ Present one
  pub at_right : below right ≡ Present other
  pub is_node : above' id ≡ Present node'
  pub is_left : below' left ≡ Present one'
  pub is_right : below' right ≡ behind
  pub apart : left ≡ right → ⊥
  pub most : length node.keys ≤ 64

module _ {K V A : Type 0} (cmp : K → K → Ordering) (is_summary : A → List K → Type 0) (slot : ℕ) (old new : Slots (Inner K A) (Leaf K V)) (id : InnerNodeId) where
  -- a node above two leaves takes their summaries, and a separator between them
  pub record ResummarizesLeavesAt (left right : LeafNodeId) (joint : ParentEntry K A) : Type 0 where
    pub node : Inner K A
    pub one : Leaf K V
    pub other : Leaf K V
    pub node' : Inner K A
    pub at_node : old.inner id.0 ≡ Present node
    pub at_left : old.leaf left.0 ≡ Present one
    pub at_right : old.leaf right.0 ≡ Present other
    pub updates : UpdatesInner old new id.0 (Present node')
    pub most : length node.keys ≤ 64
    pub reported : ParentEntry K A
    pub reports : ReportsLeaves cmp is_summary one other reported
    pub exchanges : ExchangesJoint slot node reported joint node'

  -- a node and two leaves below it, with these ids, changed by a rotation, and no other node did
  pub record RotatesLeavesAt (giver : Sibling) (count : ℕ) (left right : LeafNodeId) (joint : ParentEntry K A) : Type 0 where
    pub other' : Leaf K V
    pub three : ThreeAt old.inner new.inner old.leaf new.leaf id.0 left.0 right.0 (Present other')
    pub inners : (n : ℕ) → (n ≡ id.0 → ⊥) → new.inner n ≡ old.inner n
    pub leaves : (n : ℕ) → (n ≡ left.0 → ⊥) → (n ≡ right.0 → ⊥) → new.leaf n ≡ old.leaf n
    pub can : CanGiveMany giver count (length three.one.pairs) (length three.other.pairs)
    pub transfers : RotatesLeaves cmp is_summary giver count slot three.node three.one three.other three.node' three.one' other' joint

  -- a node and two leaves below it changed by a merge: the right leaf is taken out, and its id
  -- stays reserved
  pub record MergesLeavesAt (left right : LeafNodeId) (joint : ParentEntry K A) (emptied : Leaf K V) : Type 0 where
    pub three : ThreeAt old.inner new.inner old.leaf new.leaf id.0 left.0 right.0 Held
    pub inners : (n : ℕ) → (n ≡ id.0 → ⊥) → new.inner n ≡ old.inner n
    pub leaves : (n : ℕ) → (n ≡ left.0 → ⊥) → (n ≡ right.0 → ⊥) → new.leaf n ≡ old.leaf n
    pub fits : length three.one.pairs + length three.other.pairs ≤ 64
    pub transfers : MergesLeaves cmp is_summary slot three.node three.one three.other three.node' three.one' emptied joint

  -- a node and two inner nodes below it, with these ids, changed by a rotation or by a merge, and
  -- no other node did
  pub record RotatesInnersAt (giver : Sibling) (left right : InnerNodeId) (sides : ChildSummaries A) : Type 0 where
    pub other' : Inner K A
    pub three : ThreeAt old.inner new.inner old.inner new.inner id.0 left.0 right.0 (Present other')
    pub inners : (n : ℕ) → (n ≡ id.0 → ⊥) → (n ≡ left.0 → ⊥) → (n ≡ right.0 → ⊥) → new.inner n ≡ old.inner n
    pub leaf : new.leaf ≡ old.leaf
    pub far : (left.0 ≡ id.0 → ⊥) × (right.0 ≡ id.0 → ⊥)
    pub can : CanGive giver (length three.one.keys) (length three.other.keys)
    pub transfers : RotatesInners cmp is_summary giver slot three.node three.one three.other three.node' three.one' other' sides

  pub record MergesInnersAt (left right : InnerNodeId) (sides : ChildSummaries A) (emptied : Inner K A) : Type 0 where
    pub three : ThreeAt old.inner new.inner old.inner new.inner id.0 left.0 right.0 Held
    pub inners : (n : ℕ) → (n ≡ id.0 → ⊥) → (n ≡ left.0 → ⊥) → (n ≡ right.0 → ⊥) → new.inner n ≡ old.inner n
    pub leaf : new.leaf ≡ old.leaf
    pub far : (left.0 ≡ id.0 → ⊥) × (right.0 ≡ id.0 → ⊥)
    pub fits : length three.one.keys + length three.other.keys < 64
    pub transfers : MergesInners cmp is_summary slot three.node three.one three.other three.node' three.one' emptied sides

-- The children `left` and `right` rotated or merged, and nothing else changed. Before a merge, the
-- left one had `kept` pairs or keys.
module _ {K V A : Type 0} (cmp : K → K → Ordering) (is_summary : A → List K → Type 0) (slot : ℕ) (now : Slots (Inner K A) (Leaf K V)) (id : InnerNodeId) where
  abbrev pub HaveRotatedLeaves : Sibling → ℕ → LeafNodeId → LeafNodeId → ParentEntry K A → Type 0
  HaveRotatedLeaves giver count left right joint = (was : Slots (Inner K A) (Leaf K V)) × RotatesLeavesAt cmp is_summary slot was now id giver count left right joint

  abbrev pub HaveMergedLeaves : LeafNodeId → LeafNodeId → ParentEntry K A → Leaf K V → ℕ → Type 0
  HaveMergedLeaves left right joint emptied kept =
      (was : Slots (Inner K A) (Leaf K V)) × MergesLeavesAt cmp is_summary slot was now id left right joint emptied × (kept ≡ length (leaf_pairs (was.leaf left.0)))

  abbrev pub HaveRotatedInners : Sibling → InnerNodeId → InnerNodeId → ChildSummaries A → Type 0
  HaveRotatedInners giver left right sides = (was : Slots (Inner K A) (Leaf K V)) × RotatesInnersAt cmp is_summary slot was now id giver left right sides

  abbrev pub HaveMergedInners : InnerNodeId → InnerNodeId → ChildSummaries A → Inner K A → ℕ → Type 0
  HaveMergedInners left right sides emptied kept =
      (was : Slots (Inner K A) (Leaf K V)) × MergesInnersAt cmp is_summary slot was now id left right sides emptied × (kept ≡ length (inner_keys (was.inner left.0)))

-- every slot is again what it was before a rotation or a merge
module _ {K V A : Type 0} (cmp : K → K → Ordering) (is_summary : A → List K → Type 0) (slot : ℕ) (now new : Slots (Inner K A) (Leaf K V)) (id : InnerNodeId) where
  abbrev pub UndoesRotateLeavesAt : Sibling → ℕ → LeafNodeId → LeafNodeId → ParentEntry K A → Type 0
  UndoesRotateLeavesAt giver count left right joint =
      (was : Slots (Inner K A) (Leaf K V)) → RotatesLeavesAt cmp is_summary slot was now id giver count left right joint → new ≡ was

  abbrev pub UndoesMergeLeavesAt : LeafNodeId → LeafNodeId → ParentEntry K A → Leaf K V → ℕ → Type 0
  UndoesMergeLeavesAt left right joint emptied kept =
      (was : Slots (Inner K A) (Leaf K V)) → MergesLeavesAt cmp is_summary slot was now id left right joint emptied → kept ≡ length (leaf_pairs (was.leaf left.0))
      → slice_get (inner_children (was.inner id.0)) (slot + 1) ≡ Some (kind.Leaf right) → leaf_next (was.leaf left.0) ≡ Some right → new ≡ was

  abbrev pub UndoesRotateInnersAt : Sibling → InnerNodeId → InnerNodeId → ChildSummaries A → Type 0
  UndoesRotateInnersAt giver left right sides =
      (was : Slots (Inner K A) (Leaf K V)) → RotatesInnersAt cmp is_summary slot was now id giver left right sides → new ≡ was

  abbrev pub UndoesMergeInnersAt : InnerNodeId → InnerNodeId → ChildSummaries A → Inner K A → ℕ → Type 0
  UndoesMergeInnersAt left right sides emptied kept =
      (was : Slots (Inner K A) (Leaf K V)) → MergesInnersAt cmp is_summary slot was now id left right sides emptied → kept ≡ length (inner_keys (was.inner left.0))
      → slice_get (inner_children (was.inner id.0)) (slot + 1) ≡ Some (kind.Inner right) → new ≡ was

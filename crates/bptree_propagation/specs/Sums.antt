-- Summaries of the keys below a node, and the changes of a node that takes new ones.
use Rattle.std.specs.Prelude.{◌≡◌, ℕ, ◌+◌, ◌<◌, ◌≤◌, ◌++◌, ◌∷◌, ◌⊎◌, [], List, Some, Result, IfOk, length, slice_get, slice_set}
use Rattle.std.specs.declared.cmp.Ordering.{Ordering}
use Rattle.std.specs.List.{AllZip}
use Rattle.bptree_nodes.specs.Inner.{Inner, HasKeys, with_entry}
use Rattle.bptree_arguments.specs.Replaced.{SumsUpReplaced}
use Rattle.bptree_keys.specs.Pieces.{ArePieces, flatten}
use Rattle.bptree_nodes.specs.Leaf.{Leaf}
use Rattle.bptree_nodes.specs.Slot.{Slot, Slots, Free, Held, Present, IsPresent, Updates}
use Rattle.bptree_keys.specs.declared.node_id.InnerNodeId.{InnerNodeId}
use Rattle.bptree_keys.specs.declared.node_id.NodeId.{NodeId}
use Rattle.bptree_invariant.specs.Shape.{inner_arguments}
use Rattle.bptree_propagation.specs.declared.node_changes.NodeSplit.{NodeSplit}
use Rattle.bptree_propagation.specs.declared.node_changes.SummaryUpdate.{SummaryUpdate}
use Rattle.bptree_propagation.specs.declared.node_changes.SplitNode.{SplitNode}

module _ {K A : Type 0} where
  -- the value is a summary of all keys below the node, if the node's are summaries of its
  -- children's
  abbrev pub SumsUp : (K → K → Ordering) → (A → List K → Type 0) → Inner K A → A → Type 0
  SumsUp cmp is_summary node a = (pieces : List (List K)) → ArePieces cmp pieces → AllZip is_summary node.arguments pieces → is_summary a (flatten pieces)

  -- the node with another summary at a child index
  abbrev pub with_summary : Inner K A → ℕ → A → Inner K A
  with_summary node index a = record node { arguments = slice_set node.arguments index a }

  -- the node with another summary of a split child, and with the child to its right behind a
  -- separator
  abbrev pub with_split : Inner K A → ℕ → A → K → NodeId → A → Inner K A
  with_split node index left separator right a = with_entry (with_summary node index left) index separator right a

  -- the node with a division: the new summary of the split child, and the child to its right
  abbrev pub with_division : Inner K A → ℕ → NodeSplit K A → Inner K A
  with_division node index division = with_split node index division.left division.separator division.node division.right

  -- a node with one child and one summary more than keys, and the index of one of its children
  pub record HasChildAt (node : Inner K A) (index : ℕ) : Type 0 where
    pub within : index ≤ length node.keys
    pub children : length node.children ≡ length node.keys + 1
    pub arguments : length node.arguments ≡ length node.children

  -- a node is cut into two nodes of 32 keys each, with a key between them
  pub record IsNodeCut (whole left : Inner K A) (up : K) (right : Inner K A) : Type 0 where
    pub keys : left.keys ++ (up ∷ right.keys) ≡ whole.keys
    pub children : left.children ++ right.children ≡ whole.children
    pub arguments : left.arguments ++ right.arguments ≡ whole.arguments
    pub left_size : HasKeys 32 left
    pub right_size : HasKeys 32 right

module _ {K A : Type 0} where
  -- the value sums up the node in a slot; the statement is false if the slot has no node
  abbrev pub SumsUpAt : (K → K → Ordering) → (A → List K → Type 0) → Slot (Inner K A) → A → Type 0
  SumsUpAt cmp is_summary Free a = ⊥
  SumsUpAt cmp is_summary Held a = ⊥
  SumsUpAt cmp is_summary (Present node) a = SumsUp cmp is_summary node a

  abbrev pub IndexAt : Slot (Inner K A) → ℕ → Type 0
  IndexAt Free index = ⊥
  IndexAt Held index = ⊥
  IndexAt (Present node) index = HasChildAt node index

  abbrev pub HasKeysAt : ℕ → Slot (Inner K A) → Type 0
  HasKeysAt n Free = ⊥
  HasKeysAt n Held = ⊥
  HasKeysAt n (Present node) = HasKeys n node

module _ {K V A : Type 0} (old new : Slots (Inner K A) (Leaf K V)) (id : InnerNodeId) (index : ℕ) (division : NodeSplit K A) (was : Inner K A) where
  -- a node that had room took the child to the right of a split one, whose summary was `before`
  pub record IsLinked (before : A) : Type 0 where
    pub sets : Updates old.inner new.inner id.0 (Present (with_split was index division.left division.separator division.node division.right))
    pub leaf : new.leaf ≡ old.leaf
    pub summary : slice_get was.arguments index ≡ Some before
    pub room : length was.keys < 64

  -- a full node took the child to the right of a split one, and was split in turn
  pub record IsSplit (up : K) (fresh : InnerNodeId) (before : A) : Type 0 where
    pub left : Inner K A
    pub right : Inner K A
    pub free : old.inner fresh.0 ≡ Free
    pub at_left : new.inner id.0 ≡ Present left
    pub at_right : new.inner fresh.0 ≡ Present right
    pub others : (n : ℕ) → (n ≡ id.0 → ⊥) → (n ≡ fresh.0 → ⊥) → new.inner n ≡ old.inner n
    pub leaf : new.leaf ≡ old.leaf
    pub cut : IsNodeCut (with_split was index division.left division.separator division.node division.right) left up right
    pub summary : slice_get was.arguments index ≡ Some before
    pub full : length was.keys ≡ 64

module _ {K V A : Type 0} (slots : Slots (Inner K A) (Leaf K V)) where
  -- the last node of a path, if there is one, is present and has the child that the path goes on to
  abbrev pub HasIndexAbove : List (InnerNodeId × ℕ × NodeId) → Type 0
  HasIndexAbove path =
      (rest : List (InnerNodeId × ℕ × NodeId)) (id : InnerNodeId) (i : ℕ) (child : NodeId) → path ≡ rest ++ (id, i, child) ∷ [] → IsPresent (slots.inner id.0) × (i < length (inner_arguments (slots.inner id.0)))

  -- the last node of a path stores this summary of the child that the path goes on to
  pub record IsKeptAbove (path : List (InnerNodeId × ℕ × NodeId)) (a : A) : Type 0 where
    pub rest : List (InnerNodeId × ℕ × NodeId)
    pub id : InnerNodeId
    pub i : ℕ
    pub child : NodeId
    pub last : path ≡ rest ++ (id, i, child) ∷ []
    pub kept : slice_get (inner_arguments (slots.inner id.0)) i ≡ Some a

  -- the last node of a path stores this summary of its child, or the path is empty and this is the
  -- summary of the whole tree
  abbrev pub IsKept : List (InnerNodeId × ℕ × NodeId) → A → A → Type 0
  IsKept path whole a = IsKeptAbove path a ⊎ ((path ≡ []) × (whole ≡ a))

  -- a node's summary is computed from its old one and from the old and the new summary of a child
  pub record ReplacesSum (cmp : K → K → Ordering) (is_summary : A → List K → Type 0) (path : List (InnerNodeId × ℕ × NodeId)) (whole : A) (id : InnerNodeId) (index : ℕ) (old a : A) : Type 0 where
    pub kept : A
    pub new : A
    pub above : IsKept path whole kept
    pub here : slice_get (inner_arguments (slots.inner id.0)) index ≡ Some new
    pub replaced : SumsUpReplaced is_summary cmp kept old new a

  -- a node's summary after one child's was replaced: computed from all children, or from the change
  abbrev pub SumsUpChanged : (K → K → Ordering) → (A → List K → Type 0) → List (InnerNodeId × ℕ × NodeId) → A → InnerNodeId → ℕ → A → A → Type 0
  SumsUpChanged cmp is_summary path whole id index old a = SumsUpAt cmp is_summary (slots.inner id.0) a ⊎ ReplacesSum cmp is_summary path whole id index old a

module _ {K V A : Type 0} (old new : Slots (Inner K A) (Leaf K V)) (id : InnerNodeId) (index : ℕ) (division : NodeSplit K A) where
  -- if a call succeeded, the node with this id took a division (`LinksChild`), or was split by it
  -- (`SplitsNode`)
  abbrev pub LinksChild : {E : Type 0} → Result (SummaryUpdate A) E → Type 0
  LinksChild done = (was : Inner K A) → old.inner id.0 ≡ Present was → IfOk done (λ sums. IsLinked old new id index division was sums.old)

  abbrev pub SplitsNode : {E : Type 0} → Result (SplitNode K A InnerNodeId) E → Type 0
  SplitsNode done = (was : Inner K A) → old.inner id.0 ≡ Present was → IfOk done (λ parts. IsSplit old new id index division was parts.up parts.node parts.old)

module _ {K V A : Type 0} (cmp : K → K → Ordering) (is_summary : A → List K → Type 0) (slots : Slots (Inner K A) (Leaf K V)) where
  -- the returned summary sums up the node with this id: the first of two returned values, the
  -- summary of a node that took another one of a child, and those of both halves of a split node
  abbrev pub SumsUpFirst : {X : Type 0} → InnerNodeId → A × X → Type 0
  SumsUpFirst id done = SumsUpAt cmp is_summary (slots.inner id.0) done.0

  abbrev pub SumsUpAbove : InnerNodeId → SummaryUpdate A → Type 0
  SumsUpAbove id sums = SumsUpAt cmp is_summary (slots.inner id.0) sums.above

  abbrev pub SumsUpLeft : InnerNodeId → SplitNode K A InnerNodeId → Type 0
  SumsUpLeft id parts = SumsUpAt cmp is_summary (slots.inner id.0) parts.left

  abbrev pub SumsUpRight : SplitNode K A InnerNodeId → Type 0
  SumsUpRight parts = SumsUpAt cmp is_summary (slots.inner parts.node.0) parts.right

  -- the returned summary sums up the new root
  abbrev pub SumsUpRoot : InnerNodeId × A → Type 0
  SumsUpRoot root = SumsUpAt cmp is_summary (slots.inner root.0.0) root.1

-- Undone changes of nodes: each node is again what it was, and what it had taken is returned.
use Rattle.std.specs.Prelude.{◌≡◌, ℕ, Some, length, slice_get}
use Rattle.bptree_propagation.specs.Sums.{HasChildAt, IsNodeCut, IsLinked, IsSplit, with_division}
use Rattle.bptree_propagation.specs.declared.node_changes.NodeSplit.{NodeSplit}
use Rattle.bptree_keys.specs.declared.node_id.InnerNodeId.{InnerNodeId}
use Rattle.bptree_keys.specs.declared.node_id.NodeId.{NodeId}
use Rattle.bptree_nodes.specs.Inner.{Inner}
use Rattle.bptree_nodes.specs.Leaf.{Leaf}
use Rattle.bptree_nodes.specs.Slot.{Slots, Present}

-- a division has the key, the child and the summary of an entry that a node gave up
abbrev pub GivesEntry : {K A : Type 0} → K × NodeId × A → NodeSplit K A → Type 0
GivesEntry entry division = division ≡ record { left = division.left; separator = entry.0; node = entry.1; right = entry.2 }

module _ {K A : Type 0} (index : ℕ) (before : A) where
  -- a node that took a division is again what it was, and the division is returned; `before` was
  -- the summary at the child index
  abbrev pub UndoesDivision : Inner K A → Inner K A → NodeSplit K A → Type 0
  UndoesDivision old new taken =
      (was : Inner K A) (division : NodeSplit K A) → HasChildAt was index → slice_get was.arguments index ≡ Some before → old ≡ with_division was index division → (new ≡ was) × (taken ≡ division)

  -- a full node that took a division and was cut in two is again what it was, and the division is
  -- returned
  abbrev pub UndoesCut : Inner K A → K → Inner K A → Inner K A → NodeSplit K A → Type 0
  UndoesCut left up right new taken =
      (was : Inner K A) (division : NodeSplit K A) → HasChildAt was index → length was.keys ≡ 64 → slice_get was.arguments index ≡ Some before → IsNodeCut (with_division was index division) left up right → (new ≡ was) × (taken ≡ division)

module _ {K V A : Type 0} (old new : Slots (Inner K A) (Leaf K V)) (id : InnerNodeId) (index : ℕ) where
  -- a store is again what it was before the node with this id took a division (`UndoesLink`), or
  -- was split by it (`UndoesSplitInner`), and the division is returned
  abbrev pub UndoesLink : A → NodeSplit K A → Type 0
  UndoesLink before taken =
      (was : Slots (Inner K A) (Leaf K V)) (node : Inner K A) (division : NodeSplit K A) → was.inner id.0 ≡ Present node → HasChildAt node index → IsLinked was old id index division node before → (new ≡ was) × (taken ≡ division)

  abbrev pub UndoesSplitInner : K → InnerNodeId → A → NodeSplit K A → Type 0
  UndoesSplitInner up fresh before taken =
      (was : Slots (Inner K A) (Leaf K V)) (node : Inner K A) (division : NodeSplit K A) → was.inner id.0 ≡ Present node → HasChildAt node index → length node.keys ≡ 64 → IsSplit was old id index division node up fresh before → (new ≡ was) × (taken ≡ division)

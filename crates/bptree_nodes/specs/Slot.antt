-- The states of the node ids of a store.
use Rattle.std.specs.Prelude.{◌≡◌, ◌≢◌, ℕ, Option, MatchOption}
use Rattle.std.specs.Borrow.{Bor}
use Rattle.bptree_keys.specs.declared.node_id.InnerNodeId.{InnerNodeId}
use Rattle.bptree_keys.specs.declared.node_id.LeafNodeId.{LeafNodeId}

-- a node id is free, is reserved, or has a node
pub data Slot (N : Type 0) : Type 0 where
  Free : Slot N
  Held : Slot N
  Present : N → Slot N

module _ {N : Type 0} where
  -- the id has a node
  abbrev pub IsPresent : Slot N → Type 0
  IsPresent Free = ⊥
  IsPresent Held = ⊥
  IsPresent (Present _) = Unit {0}

  -- the id has a new state, and every other id keeps its state
  pub record Updates (old new : ℕ → Slot N) (number : ℕ) (slot : Slot N) : Type 0 where
    pub changed : new number ≡ slot
    pub others : (other : ℕ) → other ≢ number → new other ≡ old other

-- the node of the id is borrowed, or the result is `None` if the id has no node
abbrev pub BorrowsPresent : {N : Type 0} → Slot N → Option (Bor N) → Type 0
BorrowsPresent slot borrowed = MatchOption borrowed (¬ (IsPresent slot)) (λ node. slot ≡ Present node.now)

-- the states of the ids of inner nodes and of the ids of leaves
pub record Slots (I L : Type 0) : Type 0 where
  pub inner : ℕ → Slot I
  pub leaf : ℕ → Slot L

module _ {I L : Type 0} where
  -- the state of one id of an inner node changed, and the state of no other id
  pub record UpdatesInner (old new : Slots I L) (number : ℕ) (slot : Slot I) : Type 0 where
    pub inner : Updates old.inner new.inner number slot
    pub leaf : new.leaf ≡ old.leaf

  -- the state of one id of a leaf changed, and the state of no other id
  pub record UpdatesLeaf (old new : Slots I L) (number : ℕ) (slot : Slot L) : Type 0 where
    pub leaf : Updates old.leaf new.leaf number slot
    pub inner : new.inner ≡ old.inner

  -- every id is free
  pub record IsEmpty (slots : Slots I L) : Type 0 where
    pub inner : (number : ℕ) → slots.inner number ≡ Free
    pub leaf : (number : ℕ) → slots.leaf number ≡ Free

  -- the id of an inner node, or of a leaf, has the given node, or is reserved, and no other id changed
  abbrev pub AddsInner : Slots I L → Slots I L → I → InnerNodeId → Type 0
  AddsInner old new node id = UpdatesInner old new id.0 (Present node)

  abbrev pub AddsLeaf : Slots I L → Slots I L → L → LeafNodeId → Type 0
  AddsLeaf old new leaf id = UpdatesLeaf old new id.0 (Present leaf)

  abbrev pub HoldsInner : Slots I L → Slots I L → InnerNodeId → Type 0
  HoldsInner old new id = UpdatesInner old new id.0 Held

  abbrev pub HoldsLeaf : Slots I L → Slots I L → LeafNodeId → Type 0
  HoldsLeaf old new id = UpdatesLeaf old new id.0 Held

-- The effect of putting a pair on a whole tree.
use Rattle.std.specs.Prelude.{◌≡◌, ℕ, suc, ◌+◌, ◌<◌, ◌≤◌, ◌^◌, false, List, length, slice_get, Option, Some, None, Result, IfOk}
use Rattle.std.specs.declared.cmp.Ordering.{Ordering}
use Rattle.std.specs.Map.{keys_of, values_of}
use Rattle.bptree_keys.specs.Contents.{below, has, value, put}
use Rattle.bptree_nodes.specs.Inner.{Inner}
use Rattle.bptree_nodes.specs.Leaf.{Leaf, pairs_moved, set_value_at}
use Rattle.bptree_nodes.specs.Slot.{Slots, Present, UpdatesLeaf}
use Rattle.bptree_propagation.specs.Change.{StartsAt}
use Rattle.bptree_propagation.specs.LeafChange.{Adds, DividesLeaf, SumsUpLeaf}
use Rattle.bptree_propagation.specs.declared.node_changes.NodeSplit.{NodeSplit}
use Rattle.bptree_keys.specs.declared.node_id.InnerNodeId.{InnerNodeId}
use Rattle.bptree_keys.specs.declared.node_id.LeafNodeId.{LeafNodeId}
use Rattle.bptree_keys.specs.declared.node_id.NodeId.{NodeId}
use Rattle.bptree_keys.specs.declared.node_id.Position.{Position}
use Rattle.bptree_keys.specs.declared.node_id.NodeId.TheVariants as kind
use Rattle.bptree_invariant.specs.NodeTree.{NodeTree}
use Rattle.bptree_invariant.specs.Path.{Way}
use Rattle.bptree_stores.specs.Hint.{HoldsKey}
use Rattle.bptree_invariant.specs.Shape.{leaf_pairs, pairs_at, IsWellShaped}

-- a root and its height, or the new root above it and its height
abbrev pub root_after : NodeId → ℕ → Option InnerNodeId → NodeId × ℕ
root_after root height None = (root, height)
root_after root height (Some id) = (kind.Inner id, height + 1)

-- the key is not in the tree, and belongs at a slot of the leaf at the end of a path
pub record BelongsAt {K V A : Type 0} (cmp : K → K → Ordering) (is_summary : A → List K → Type 0) (slots : Slots (Inner K A) (Leaf K V)) (path : List (InnerNodeId × ℕ × NodeId)) (leaf : LeafNodeId) (slot : ℕ) (k : K) : Type 0 where
  pub top : ℕ
  pub root : NodeId
  pub shape : IsWellShaped cmp is_summary slots top root
  pub few : length (pairs_at slots top root) + 1 < 2 ^ 64
  pub way : Way cmp slots k top root path 0 (kind.Leaf leaf)
  pub absent : has cmp (leaf_pairs (slots.leaf leaf.0)) k ≡ false
  pub index : slot ≡ length (below cmp (leaf_pairs (slots.leaf leaf.0)) k)

module _ {K V A : Type 0} (cmp : K → K → Ordering) (is_summary : A → List K → Type 0) (old new : Slots (Inner K A) (Leaf K V)) (height : ℕ) (root : NodeId) (k : K) (v : V) where
  -- the pair was put, and the tree of the new height and root is well shaped
  pub record IsPlaced (top_height : ℕ) (top : NodeId) (a : A) : Type 0 where
    pub shape : IsWellShaped cmp is_summary new top_height top
    pub pairs : pairs_at new top_height top ≡ put cmp (pairs_at old height root) k v
    pub reported : is_summary a (keys_of (pairs_at new top_height top))

  -- the pair was put, and the tree has the root that it had, or a new one a level above it
  abbrev pub IsPlacedUpTo : Option InnerNodeId → A → Type 0
  IsPlacedUpTo None a = IsPlaced height root a
  IsPlacedUpTo (Some id) a = IsPlaced (suc height) (kind.Inner id) a

  pub record IsReplaced (was : V) : Type 0 where
    pub there : value cmp (pairs_at old height root) k ≡ Some was
    pub shape : IsWellShaped cmp is_summary new height root
    pub pairs : pairs_at new height root ≡ put cmp (pairs_at old height root) k v
    pub keys : keys_of (pairs_at new height root) ≡ keys_of (pairs_at old height root)

-- a value is put at a key, and the key's old value is returned
abbrev pub PutsPair : {K V : Type 0} → (K → K → Ordering) → K → V → List (K × V) → List (K × V) → Option V → Type 0
PutsPair cmp k v old new reported = (reported ≡ value cmp old k) × (new ≡ put cmp old k v)

-- a list has the key, or has room for one more
abbrev pub HasRoomFor : {K V : Type 0} → (K → K → Ordering) → List (K × V) → K → Type 0
HasRoomFor cmp l k = has cmp l k ≡ false → length l + 1 < 2 ^ 64

-- every value is a summary of every list of keys
abbrev pub SaysNothing : {K A : Type 0} → (A → List K → Type 0) → Type 0
SaysNothing {K} {A} is_summary = (a : A) (keys : List K) → is_summary a keys

-- a leaf holds the key and has room, and no node above it needs a new summary
pub record IsCached {K V A : Type 0} (cmp : K → K → Ordering) (is_summary : A → List K → Type 0) (slots : Slots (Inner K A) (Leaf K V)) (k : K) (leaf : LeafNodeId) : Type 0 where
  pub holds : HoldsKey cmp (slots.leaf leaf.0) k
  pub few : length (leaf_pairs (slots.leaf leaf.0)) < 64
  pub any : SaysNothing is_summary

-- the right half starts at this key, if a full leaf of these pairs is cut with a new key at a slot
abbrev pub SeparatesHalves : {K V : Type 0} → (K → K → Ordering) → List (K × V) → ℕ → K → K → Type 0
SeparatesHalves {V = V} cmp pairs slot k separator = (value : V) → StartsAt cmp separator (pairs_moved slot (k, value) pairs)

module _ {K V A : Type 0} (slots : Slots (Inner K A) (Leaf K V)) (id : LeafNodeId) (slot : ℕ) where
  -- a leaf has this value at a slot
  abbrev pub HasValueAt : V → Type 0
  HasValueAt v = slice_get (values_of (leaf_pairs (slots.leaf id.0))) slot ≡ Some v

module _ {K V A : Type 0} (old new : Slots (Inner K A) (Leaf K V)) (id : LeafNodeId) (slot : ℕ) where
  -- if a call succeeded, the leaf with this id took a pair at a slot
  abbrev pub AddsPair : {R E : Type 0} → K × V → Result R E → Type 0
  AddsPair pair done = (was : Leaf K V) → old.leaf id.0 ≡ Present was → IfOk done (λ a. Adds old new id slot pair was)

  -- the leaf that took a pair is again what it was, and the pair is returned
  abbrev pub UndoesAdd : K × V → Type 0
  UndoesAdd taken = (was : Slots (Inner K A) (Leaf K V)) (node : Leaf K V) (pair : K × V) → was.leaf id.0 ≡ Present node → slot ≤ length node.pairs → Adds was old id slot pair node → (new ≡ was) × (taken ≡ pair)

  -- a leaf takes another value at a slot
  abbrev pub SetsValue : V → Type 0
  SetsValue v = (was : Leaf K V) → old.leaf id.0 ≡ Present was → UpdatesLeaf old new id.0 (Present (record was { pairs = set_value_at was.pairs slot v }))

module _ {K V A : Type 0} (cmp : K → K → Ordering) (old new : Slots (Inner K A) (Leaf K V)) (id : LeafNodeId) (slot : ℕ) where
  -- if a call succeeded, the leaf with this id was split with a pair at a slot
  abbrev pub Divides : {E : Type 0} → K × V → Result (NodeSplit K A × LeafNodeId) E → Type 0
  Divides pair done = (was : Leaf K V) → old.leaf id.0 ≡ Present was → IfOk done (λ parts. DividesLeaf cmp old new id slot pair was parts.0 parts.1)

  -- the two leaves are again the one that was split, and the pair is returned
  abbrev pub Rejoins : LeafNodeId → K × V → Type 0
  Rejoins fresh taken =
      (was : Slots (Inner K A) (Leaf K V)) (node : Leaf K V) (pair : K × V) (division : NodeSplit K A) → was.leaf id.0 ≡ Present node → slot ≤ length node.pairs → DividesLeaf cmp was old id slot pair node division fresh → (new ≡ was) × (taken ≡ pair)

module _ {K V A : Type 0} (cmp : K → K → Ordering) (is_summary : A → List K → Type 0) where
  -- each half of a split leaf has its summary in the division
  abbrev pub LeftSumsUp : Slots (Inner K A) (Leaf K V) → LeafNodeId → NodeSplit K A × LeafNodeId → Type 0
  LeftSumsUp slots id parts = SumsUpLeaf cmp is_summary (leaf_pairs (slots.leaf id.0)) parts.0.left

  abbrev pub RightSumsUp : Slots (Inner K A) (Leaf K V) → NodeSplit K A × LeafNodeId → Type 0
  RightSumsUp slots parts = SumsUpLeaf cmp is_summary (leaf_pairs (slots.leaf parts.1.0)) parts.0.right

  -- the value is a summary of the keys of the tree that the key is due in
  abbrev pub SumsUpDue : Slots (Inner K A) (Leaf K V) → List (InnerNodeId × ℕ × NodeId) → LeafNodeId → ℕ → K → A → Type 0
  SumsUpDue slots path leaf slot k a = (due : BelongsAt cmp is_summary slots path leaf slot k) → is_summary a (keys_of (pairs_at slots due.top due.root))

  -- the key is due, in a tree with this root
  abbrev pub IsDueBelow : Slots (Inner K A) (Leaf K V) → NodeId → List (InnerNodeId × ℕ × NodeId) → LeafNodeId → ℕ → K → Type 0
  IsDueBelow slots root path leaf slot k = (due : BelongsAt cmp is_summary slots path leaf slot k) × (due.root ≡ root)

  module _ (old new : Slots (Inner K A) (Leaf K V)) (path : List (InnerNodeId × ℕ × NodeId)) (leaf : LeafNodeId) (slot : ℕ) (k : K) (v : V) where
    -- if a call succeeded, the pair of a key that was due was put, below the root that was there
    -- (`IndexesOfAbsent`), or below that or a new one (`IndexesOfAbsentUpTo`)
    abbrev pub IndexesOfAbsent : {E : Type 0} → Result A E → Type 0
    IndexesOfAbsent done = (due : BelongsAt cmp is_summary old path leaf slot k) → IfOk done (λ a. IsPlaced cmp is_summary old new due.top due.root k v due.top due.root a)

    abbrev pub IndexesOfAbsentUpTo : {E : Type 0} → NodeId → Result (Option InnerNodeId × A) E → Type 0
    IndexesOfAbsentUpTo root done = (due : BelongsAt cmp is_summary old path leaf slot k) → due.root ≡ root → IfOk done (λ top. IsPlacedUpTo cmp is_summary old new due.top root k v top.0 top.1)

-- the key is not in a whole tree, and belongs at a position that a path leads to
abbrev pub IsDueIn : {S K V A : Type 0} → (S → Slots (Inner K A) (Leaf K V)) → (K → K → Ordering) → (A → List K → Type 0) → NodeTree S K V A → List (InnerNodeId × ℕ × NodeId) → Position → K → Type 0
IsDueIn slots cmp is_summary tree path at k =
    (due : BelongsAt cmp is_summary (slots tree.store) path at.leaf at.slot k) × (due.root ≡ tree.root) × (due.top ≡ tree.height)

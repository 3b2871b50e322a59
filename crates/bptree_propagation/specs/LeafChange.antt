-- Changes of a leaf that takes a pair with a new key.
use Rattle.std.specs.Prelude.{◌≡◌, ℕ, ◌+◌, ◌<◌, ◌≤◌, ◌++◌, List, length, Some}
use Rattle.std.specs.declared.cmp.Ordering.{Ordering}
use Rattle.std.specs.List.{insert}
use Rattle.std.specs.Map.{keys_of}
use Rattle.bptree_keys.specs.Contents.{IsAscending}
use Rattle.bptree_nodes.specs.Inner.{Inner}
use Rattle.bptree_nodes.specs.Leaf.{Leaf}
use Rattle.bptree_nodes.specs.Slot.{Slot, Slots, Free, Held, Present, UpdatesLeaf}
use Rattle.bptree_keys.specs.declared.node_id.LeafNodeId.{LeafNodeId}
use Rattle.bptree_keys.specs.declared.node_id.NodeId.TheVariants as kind
use Rattle.bptree_propagation.specs.Change.{StartsAt}
use Rattle.bptree_propagation.specs.declared.node_changes.NodeSplit.{NodeSplit}
use Rattle.bptree_invariant.specs.Shape.{leaf_pairs}

module _ {K V : Type 0} where
  -- a slot of the leaf, or its end
  abbrev pub HasSlotAt : Slot (Leaf K V) → ℕ → Type 0
  HasSlotAt Free slot = ⊥
  HasSlotAt Held slot = ⊥
  HasSlotAt (Present leaf) slot = slot ≤ length leaf.pairs

  -- the two leaves that a full leaf with one more pair was cut into
  abbrev pub AreHalves : Slot (Leaf K V) → Slot (Leaf K V) → Type 0
  AreHalves Free right = ⊥
  AreHalves Held right = ⊥
  AreHalves (Present left) Free = ⊥
  AreHalves (Present left) Held = ⊥
  AreHalves (Present left) (Present right) = length left.pairs + length right.pairs ≡ 65

-- the value is a summary of the keys, if there are some and they ascend
abbrev pub SumsUpLeaf : {K V A : Type 0} → (K → K → Ordering) → (A → List K → Type 0) → List (K × V) → A → Type 0
SumsUpLeaf cmp is_summary pairs a = 0 < length pairs → IsAscending cmp pairs → is_summary a (keys_of pairs)

-- the value is a summary of the keys of the leaf with this id, if there are some and they ascend
abbrev pub SumsUpLeafAt : {K V A : Type 0} → (K → K → Ordering) → (A → List K → Type 0) → Slots (Inner K A) (Leaf K V) → LeafNodeId → A → Type 0
SumsUpLeafAt cmp is_summary slots id a = SumsUpLeaf cmp is_summary (leaf_pairs (slots.leaf id.0)) a

module _ {K V A : Type 0} (cmp : K → K → Ordering) (old new : Slots (Inner K A) (Leaf K V)) (id : LeafNodeId) (slot : ℕ) (pair : K × V) (was : Leaf K V) where
  -- a full leaf with one more pair at a slot was split into itself and a new leaf behind it
  pub record DividesLeaf (division : NodeSplit K A) (fresh : LeafNodeId) : Type 0 where
    pub left : List (K × V)
    pub right : List (K × V)
    pub node : division.node ≡ kind.Leaf fresh
    pub free : old.leaf fresh.0 ≡ Free
    pub at_left : new.leaf id.0 ≡ Present (record was { pairs = left; next = Some fresh })
    pub at_right : new.leaf fresh.0 ≡ Present (record { pairs = right; prev = Some id; next = was.next })
    pub others : (n : ℕ) → (n ≡ id.0 → ⊥) → (n ≡ fresh.0 → ⊥) → new.leaf n ≡ old.leaf n
    pub inner : new.inner ≡ old.inner
    pub parts : left ++ right ≡ insert was.pairs slot pair
    pub left_least : 32 ≤ length left
    pub left_most : length left ≤ 33
    pub right_least : 32 ≤ length right
    pub right_most : length right ≤ 33
    pub starts : StartsAt cmp division.separator right

module _ {K V A : Type 0} (old new : Slots (Inner K A) (Leaf K V)) (id : LeafNodeId) (slot : ℕ) (pair : K × V) (was : Leaf K V) where
  -- a leaf took a pair at a slot
  abbrev pub Adds : Type 0
  Adds = UpdatesLeaf old new id.0 (Present (record was { pairs = insert was.pairs slot pair }))

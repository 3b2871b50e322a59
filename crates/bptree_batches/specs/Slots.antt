-- The slots of keys in their leaves.
use Rattle.std.specs.Prelude.{◌≡◌, ◌+◌, ◌<◌, ◌≤◌, ℕ, List, [], ◌∷◌, Option, None, Result, Ok, Err, IfOk, length, slice_get, zip}
use Rattle.std.specs.List.{AllZip}
use Rattle.std.specs.declared.cmp.Ordering.{Ordering}
use Rattle.std.specs.Map.{keys_of, values_of}
use Rattle.bptree_batches.specs.Ways.{IsLeafThere}
use Rattle.bptree_keys.specs.Contents.{IsAscending}
use Rattle.bptree_keys.specs.Locate.{locate}
use Rattle.bptree_keys.specs.Searches.{IsAmong}
use Rattle.bptree_keys.specs.declared.node_id.LeafNodeId.{LeafNodeId}
use Rattle.bptree_keys.specs.declared.node_id.NodeId.{NodeId}
use Rattle.bptree_keys.specs.declared.node_id.NodeId.TheVariants as kind
use Rattle.bptree_nodes.specs.Inner.{Inner}
use Rattle.bptree_nodes.specs.Leaf.{Leaf}
use Rattle.bptree_nodes.specs.Slot.{Slot, Slots, Free, Held, Present}

-- the value of the pair in a slot, or `None` for a key that has no slot
abbrev pub value_in_slot : {K V : Type 0} → List (K × V) → Result ℕ ℕ → Option V
value_in_slot pairs (Ok i) = slice_get (values_of pairs) i
value_in_slot pairs (Err i) = None

module _ {K V A : Type 0} (slots : Slots (Inner K A) (Leaf K V)) where
  -- there is a leaf at each node id
  abbrev pub AreLeavesThere : List NodeId → Type 0
  AreLeavesThere [] = Unit {0}
  AreLeavesThere (id ∷ ids) = IsLeafThere slots id × AreLeavesThere ids

  -- the slot in the leaf at a node id has a pair
  abbrev pub IsSlotWithin : NodeId → Result ℕ ℕ → Type 0
  IsSlotWithin id slot = (leaf : LeafNodeId) (node : Leaf K V) → id ≡ kind.Leaf leaf → slots.leaf leaf.0 ≡ Present node → IfOk slot (λ i. i < length node.pairs)

  -- the value in a slot of the leaf at a node id, or `None` for a key that has no slot
  abbrev pub ReadsSlot : NodeId → Result ℕ ℕ → Option V → Type 0
  ReadsSlot id slot found = (leaf : LeafNodeId) (node : Leaf K V) → id ≡ kind.Leaf leaf → slots.leaf leaf.0 ≡ Present node → found ≡ value_in_slot node.pairs slot

module _ {K V A : Type 0} (cmp : K → K → Ordering) (slots : Slots (Inner K A) (Leaf K V)) where
  -- the slot of a key in the leaf at a node id, or the number of keys there that are smaller
  abbrev pub IsSlotOfLeaf : NodeId → K → Result ℕ ℕ → Type 0
  IsSlotOfLeaf id k slot = (leaf : LeafNodeId) (node : Leaf K V) → id ≡ kind.Leaf leaf → slots.leaf leaf.0 ≡ Present node → IsAscending cmp node.pairs → slot ≡ locate cmp (keys_of node.pairs) k

  -- the slot at each index is that of the key at the index, in the leaf at the node id at the
  -- index; the lists have one length
  abbrev pub AreSlotsIn : List NodeId → List K → List (Result ℕ ℕ) → Type 0
  AreSlotsIn [] [] [] = Unit {0}
  AreSlotsIn [] [] (s ∷ ss) = ⊥
  AreSlotsIn [] (k ∷ ks) ss = ⊥
  AreSlotsIn (id ∷ ids) [] ss = ⊥
  AreSlotsIn (id ∷ ids) (k ∷ ks) [] = ⊥
  AreSlotsIn (id ∷ ids) (k ∷ ks) (s ∷ ss) = IsSlotOfLeaf id k s × AreSlotsIn ids ks ss

-- the keys of a span are among these keys; there is one if there are any keys, and at most so many;
-- the search for a key goes on in them
pub record IsSearchSpan {X : Type 0} (ord : X → Ordering) (xs : List X) (most : ℕ) (span : ℕ × ℕ) : Type 0 where
  pub some : 0 < length xs → 0 < span.1
  pub within : span.0 + span.1 ≤ length xs
  pub few : span.1 ≤ most
  pub among : IsAmong ord xs span.0 span.1

module _ {K V A : Type 0} (cmp : K → K → Ordering) (slots : Slots (Inner K A) (Leaf K V)) (most : ℕ) where
  -- the search for a key in the leaf at a node id goes on in a span of its keys
  abbrev pub IsSpanAt : NodeId → K → ℕ × ℕ → Type 0
  IsSpanAt id k span = (leaf : LeafNodeId) (node : Leaf K V) → id ≡ kind.Leaf leaf → slots.leaf leaf.0 ≡ Present node → IsSearchSpan (λ y. cmp y k) (keys_of node.pairs) most span

  -- the same of a node id and a key
  abbrev pub IsSpanOf : NodeId × K → ℕ × ℕ → Type 0
  IsSpanOf at span = IsSpanAt at.0 at.1 span

  -- the span at each index is that of the key at the index, in the leaf at the node id at the index
  abbrev pub AreSpans : List NodeId → List K → List (ℕ × ℕ) → Type 0
  AreSpans ids keys spans = AllZip IsSpanOf (zip ids keys) spans

-- the keys of the leaf in a slot of the store, or no keys if there is no leaf
abbrev pub keys_held : {K V : Type 0} → Slot (Leaf K V) → List K
keys_held Free = []
keys_held Held = []
keys_held (Present node) = keys_of node.pairs

module _ {K V A : Type 0} (slots : Slots (Inner K A) (Leaf K V)) where
  -- the keys of the leaf at a node id, or no keys if there is no leaf
  abbrev pub keys_at : NodeId → List K
  keys_at (kind.Leaf id) = keys_held (slots.leaf id.0)
  keys_at (kind.Inner id) = []

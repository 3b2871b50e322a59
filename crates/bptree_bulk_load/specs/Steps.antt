-- What each node of a layer is built of.
use Rattle.std.specs.Prelude.{◌≡◌, ℕ, ◌+◌, ◌<◌, ◌^◌, ◌∷◌, ◌++◌, List, Option, None, Some, length}
use Rattle.std.specs.declared.cmp.Ordering.{Ordering}
use Rattle.std.specs.List.{AllZip}
use Rattle.std.specs.Map.{keys_of}
use Rattle.std.specs.Vec.Iter.{into_iter_items, into_iter_len}
use Rattle.std.specs.declared.vec.IntoIter.{IntoIter}
use Rattle.bptree_keys.specs.Contents.{IsAscending}
use Rattle.bptree_keys.specs.Pieces.{ArePieces, flatten}
use Rattle.bptree_keys.specs.declared.node_id.InnerNodeId.{InnerNodeId}
use Rattle.bptree_keys.specs.declared.node_id.LeafNodeId.{LeafNodeId}
use Rattle.bptree_keys.specs.declared.node_id.NodeId.TheVariants as kind
use Rattle.bptree_nodes.specs.Inner.{Inner}
use Rattle.bptree_nodes.specs.Leaf.{Leaf}
use Rattle.bptree_nodes.specs.Slot.{Slot, Slots, Free, Held, Present, UpdatesInner}
use Rattle.bptree_propagation.specs.Change.{StartsAt}
use Rattle.bptree_bulk_load.specs.Layer.{roots, firsts, summaries, with_leaves, IsLayer, IsSpreading}
use Rattle.bptree_bulk_load.specs.declared.subtree.Subtree.{Subtree}

-- a leaf of the first pairs, with the key that it starts at and a summary of its keys
pub record IsFilled {K V A : Type 0} (cmp : K → K → Ordering) (is_summary : A → List K → Type 0) (all : List (K × V)) (count : ℕ) (prev : Option LeafNodeId) (leaf : Leaf K V) (first : K) (summary : A) (rest : List (K × V)) : Type 0 where
  pub taken : all ≡ leaf.pairs ++ rest
  pub len : length leaf.pairs ≡ count
  pub is : leaf ≡ record { pairs = leaf.pairs; prev = prev; next = None }
  pub starts : StartsAt cmp first leaf.pairs
  pub reported : IsAscending cmp leaf.pairs → is_summary summary (keys_of leaf.pairs)

module _ {K A : Type 0} where
  -- the tree of one leaf, in a layer
  abbrev pub leaf_tree : LeafNodeId → K → A → Subtree K A
  leaf_tree id first summary = record { root = kind.Leaf id; first = first; summary = summary }

  -- a node above the first trees, with the keys that all but the first of them start at as
  -- separators
  pub record IsLayerAbove (all : List (Subtree K A)) (count : ℕ) (node : Inner K A) (first : K) (rest : List (Subtree K A)) : Type 0 where
    pub head : Subtree K A
    pub others : List (Subtree K A)
    pub taken : all ≡ head ∷ (others ++ rest)
    pub len : length (head ∷ others) ≡ count
    pub keys : node.keys ≡ firsts others
    pub children : node.children ≡ roots (head ∷ others)
    pub arguments : node.arguments ≡ summaries (head ∷ others)
    pub starts : first ≡ head.first

-- a new node is above the first trees
pub record IsRaised {K V A : Type 0} (cmp : K → K → Ordering) (is_summary : A → List K → Type 0) (old new : Slots (Inner K A) (Leaf K V)) (all : List (Subtree K A)) (count : ℕ) (tree : Subtree K A) (rest : List (Subtree K A)) : Type 0 where
  pub id : InnerNodeId
  pub node : Inner K A
  pub above : IsLayerAbove all count node tree.first rest
  pub is : tree.root ≡ kind.Inner id
  pub was_free : old.inner id.0 ≡ Free
  pub updates : UpdatesInner old new id.0 (Present node)
  pub reported : (pieces : List (List K)) → ArePieces cmp pieces → AllZip is_summary node.arguments pieces → is_summary tree.summary (flatten pieces)

-- an iterator has so many items left, and knows how many
pub record HasLeft {X Z : Type 0} (items : IntoIter X Z) (left : ℕ) : Type 0 where
  pub are : left ≡ length (into_iter_items items)
  pub counted : into_iter_len items ≡ length (into_iter_items items)

-- A node is above the first trees of an iterator, which has the others left.
abbrev pub TakesTrees : {K A Z : Type 0} → IntoIter (Subtree K A) Z → ℕ → Inner K A → K → IntoIter (Subtree K A) Z → Type 0
TakesTrees old count node first new = IsLayerAbove (into_iter_items old) count node first (into_iter_items new)

module _ {K V A : Type 0} (cmp : K → K → Ordering) (is_summary : A → List K → Type 0) where
  -- a leaf has the first pairs of an iterator, which knows how many are left
  abbrev pub TakesPairs : {Z : Type 0} → IntoIter (K × V) Z → ℕ → Option LeafNodeId → Leaf K V → K → A → IntoIter (K × V) Z → Type 0
  TakesPairs old count prev leaf first summary new =
      (into_iter_len new ≡ length (into_iter_items new)) × IsFilled cmp is_summary (into_iter_items old) count prev leaf first summary (into_iter_items new)

  module _ (old new : Slots (Inner K A) (Leaf K V)) where
    -- a node above the first trees is in the store
    abbrev pub RaisesNode : {Z : Type 0} → IntoIter (Subtree K A) Z → IntoIter (Subtree K A) Z → ℕ → Subtree K A → Type 0
    RaisesNode trees trees' count tree =
        (into_iter_len trees' ≡ length (into_iter_items trees')) × IsRaised cmp is_summary old new (into_iter_items trees) count tree (into_iter_items trees')

    -- the trees of a layer are below those of the layer above, which are fewer, whatever the leaves
    -- of the store are
    abbrev pub RaisesLayer : ℕ → List (Subtree K A) → List (Subtree K A) → Type 0
    RaisesLayer height layer above =
        (0 < length above) × (length above < length layer) × (new.leaf ≡ old.leaf)
        × ((leaves : ℕ → Slot (Leaf K V)) (pairs : List (K × V)) → IsAscending cmp pairs → length pairs < 2 ^ 64 → IsLayer cmp is_summary (with_leaves old leaves) height layer pairs → IsLayer cmp is_summary (with_leaves new leaves) (height + 1) above pairs)

    -- a leaf of the first pairs is stored at the id that was reserved for it, after those that are
    -- done, and an id is reserved for the next one
    abbrev pub SpreadsOn : {Z : Type 0} → List (Subtree K A) → List (Subtree K A) → IntoIter (K × V) Z → IntoIter (K × V) Z → ℕ → LeafNodeId → Option LeafNodeId → LeafNodeId → Type 0
    SpreadsOn done done' items items' count id prev next =
        (length (into_iter_items items') + count ≡ length (into_iter_items items)) × (into_iter_len items' ≡ length (into_iter_items items')) × (new.leaf next.0 ≡ Held)
        × ((pairs : List (K × V)) → IsAscending cmp pairs → IsSpreading cmp is_summary old 16 done id prev (into_iter_items items) pairs → IsSpreading cmp is_summary new 16 done' next (Some id) (into_iter_items items') pairs)

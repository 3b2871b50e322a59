-- The tree after a borrow of a value ends.
use Rattle.std.specs.Prelude.{ℕ, List, [], ◌∷◌, Option, Some, None, if◌then◌else◌}
use Rattle.std.specs.declared.cmp.Ordering.{Ordering}
use Rattle.std.specs.Map.{set_value}
use Rattle.std.specs.Ordering.{is_eq}
use Rattle.bptree_keys.specs.Contents.{has}
use Rattle.bptree_nodes.specs.Inner.{Inner}
use Rattle.bptree_nodes.specs.Leaf.{Leaf}
use Rattle.bptree_nodes.specs.Slot.{Slot, Slots, Free, Held, Present}
use Rattle.bptree_keys.specs.declared.node_id.LeafNodeId.{LeafNodeId}
use Rattle.bptree_invariant.specs.Shape.{leaf_pairs, leaves_at}
use Rattle.bptree_invariant.specs.NodeTree.{NodeTree}

module _ {K V A : Type 0} (cmp : K → K → Ordering) (slots : Slots (Inner K A) (Leaf K V)) where
  -- the first of the leaves that holds the key
  abbrev pub holder : List LeafNodeId → K → Option LeafNodeId
  holder [] k = None
  holder (id ∷ ids) k = if has cmp (leaf_pairs (slots.leaf id.0)) k then Some id else holder ids k

-- the pairs with a value written at a key
abbrev pub written : {K V : Type 0} → (K → K → Ordering) → K → List (K × V) → V → List (K × V)
written cmp k l v = set_value (λ key. is_eq (cmp key k)) l v

module _ {S K V A : Type 0} (cmp : K → K → Ordering) (slots : S → Slots (Inner K A) (Leaf K V)) (with_leaf : S → ℕ → Leaf K V → S) where
  abbrev pub leaf_written : S → LeafNodeId → Slot (Leaf K V) → K → V → S
  leaf_written store id Free k v = store
  leaf_written store id Held k v = store
  leaf_written store id (Present leaf) k v = with_leaf store id.0 (record leaf { pairs = written cmp k leaf.pairs v })

  abbrev pub store_written : S → Option LeafNodeId → K → V → S
  store_written store None k v = store
  store_written store (Some id) k v = leaf_written store id ((slots store).leaf id.0) k v

  -- the tree with a value written at a key, in the contents and in the leaf that holds the key
  abbrev pub tree_written : NodeTree S K V A → K → V → NodeTree S K V A
  tree_written tree k v = record tree {
    contents = written cmp k tree.contents v;
    store = store_written tree.store (holder cmp (slots tree.store) (leaves_at (slots tree.store) tree.height tree.root) k) k v;
  }

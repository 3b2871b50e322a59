-- The states of the ids of a store over slabs, and the store with a node changed.
use Rattle.std.specs.Prelude.{ℕ, refl}
use Rattle.std.specs.Box.{with_value as with_boxed}
use Rattle.std.specs.declared.alloc.Global.{Global}
use Rattle.std.specs.declared.boxed.Box.{Box}
use Rattle.slab.specs.Slab.{get, with_value}
use Rattle.bptree_nodes.specs.Inner.{Inner}
use Rattle.bptree_nodes.specs.Leaf.{Leaf}
use Rattle.bptree_nodes.specs.Slot.{Slots, Present, IsPresent, UpdatesLeaf, UpdatesInner}
use Rattle.bptree_stores.specs.IdState.{slot_at, with_entry_node, Updates-with_node}
use Rattle.bptree_stores.specs.declared.node_store_vec.NodeStoreVec.{NodeStoreVec}
use Rattle.bptree_stores.specs.declared.inline_node.InlineNode.{InlineNode}

-- the node in a box, and the node in a seat
abbrev pub boxed : {N : Type 0} → Box N Global → N
boxed box = box.value

abbrev pub seated : {N : Type 0} → InlineNode N → N
seated inline_node = inline_node.node

abbrev pub with_seated : {N : Type 0} → InlineNode N → N → InlineNode N
with_seated inline_node new = record inline_node { node = new }

module _ {K V A : Type 0} where
  abbrev pub slots : NodeStoreVec K V A → Slots (Inner K A) (Leaf K V)
  slots s = record { inner = slot_at boxed s.inner_nodes; leaf = slot_at seated s.leaf_nodes }

  abbrev pub store_with_leaf : NodeStoreVec K V A → ℕ → Leaf K V → NodeStoreVec K V A
  store_with_leaf s id leaf = record s { leaf_nodes = with_value s.leaf_nodes id (with_entry_node seated with_seated (get s.leaf_nodes id) leaf) }

  pub store_with_leaf_updates : (s : NodeStoreVec K V A) (id : ℕ) (leaf : Leaf K V) → IsPresent ((slots s).leaf id) → UpdatesLeaf (slots s) (slots (store_with_leaf s id leaf)) id (Present leaf)
  store_with_leaf_updates s id leaf present = record { leaf = Updates-with_node seated with_seated (λ _ _. refl) s.leaf_nodes id leaf present; inner = refl }

  abbrev pub store_with_inner : NodeStoreVec K V A → ℕ → Inner K A → NodeStoreVec K V A
  store_with_inner s id node = record s { inner_nodes = with_value s.inner_nodes id (with_entry_node boxed with_boxed (get s.inner_nodes id) node) }

  pub store_with_inner_updates : (s : NodeStoreVec K V A) (id : ℕ) (node : Inner K A) → IsPresent ((slots s).inner id) → UpdatesInner (slots s) (slots (store_with_inner s id node)) id (Present node)
  store_with_inner_updates s id node present = record { inner = Updates-with_node boxed with_boxed (λ _ _. refl) s.inner_nodes id node present; leaf = refl }

-- A pair is put into the cached leaf, which holds the key and has room.
use Rattle.std.proofs.Common.{◌≡◌, ℕ, ◌<◌, false, None, List, length, refl, subst}
use Rattle.std.specs.declared.cmp.Ordering.{Ordering}
use Rattle.std.specs.Cmp.{IsTotalOrder}
use Rattle.bptree_keys.specs.Contents.{IsAscending, below, has, value}
use Rattle.bptree_keys.specs.declared.node_id.InnerNodeId.{InnerNodeId}
use Rattle.bptree_keys.specs.declared.node_id.LeafNodeId.{LeafNodeId}
use Rattle.bptree_keys.specs.declared.node_id.NodeId.{NodeId}
use Rattle.bptree_keys.specs.declared.node_id.NodeId.TheVariants as kind
use Rattle.bptree_nodes.specs.Inner.{Inner}
use Rattle.bptree_nodes.specs.Leaf.{Leaf}
use Rattle.bptree_nodes.specs.Slot.{Slots, Present}
use Rattle.bptree_stores.specs.Hint.{HoldsKey}
use Rattle.bptree_invariant.specs.Leaves.{IsLeafFor}
use Rattle.bptree_invariant.specs.Path.{Way}
use Rattle.bptree_invariant.specs.Shape.{leaf_pairs, pairs_at, IsWellShaped, LacksKey}
use Rattle.bptree_invariant.proofs.Hinted.{hinted}
use Rattle.bptree_invariant.proofs.Remembered.{way_hinted}
use Rattle.bptree_propagation.specs.LeafChange.{Adds, SumsUpLeaf}
use Rattle.bptree_propagation.proofs.AnySummary.{risen_untouched}
use Rattle.bptree_insertion.specs.Puts.{HasRoomFor, IsPlaced, SaysNothing}
use Rattle.bptree_insertion.proofs.Placed.{climbs_added, placed_added}
use Rattle.bptree_insertion.proofs.Upserted.{absent, added}

module _ {K V A : Type 0} {cmp : K → K → Ordering} (total : IsTotalOrder cmp) (is_summary : A → List K → Type 0) (old : Slots (Inner K A) (Leaf K V)) (h : ℕ) (root : NodeId) (k : K) (leaf : LeafNodeId) (node : Leaf K V)
    (shape : IsWellShaped cmp is_summary old h root) (holds : HoldsKey cmp (old.leaf leaf.0) k) (read : old.leaf leaf.0 ≡ Present node) where
  pub cached_leaf_with_room : IsLeafFor cmp old h root k leaf
  cached_leaf_with_room = hinted total is_summary old h root shape k leaf holds

  way : (path : List (InnerNodeId × ℕ × NodeId)) × Way cmp old k h root path 0 (kind.Leaf leaf)
  way = way_hinted total old k is_summary h root shape leaf holds

  module _ (slot : ℕ) (index : IsAscending cmp node.pairs → (has cmp node.pairs k ≡ false) × (slot ≡ length (below cmp node.pairs k))) where
    pub absent_in_cached : LacksKey cmp old h root k
    absent_in_cached = absent total is_summary old h root k leaf node shape cached_leaf_with_room read slot index

    -- no other node changes, since every value is a summary of every list
    pub added_to_cached : HasRoomFor cmp (pairs_at old h root) k → (v : V) (mid : Slots (Inner K A) (Leaf K V)) → SaysNothing is_summary → ((was : Leaf K V) → old.leaf leaf.0 ≡ Present was → Adds old mid leaf slot (k, v) was)
        → length (leaf_pairs (old.leaf leaf.0)) < 64 → (a : A) → SumsUpLeaf cmp is_summary (leaf_pairs (mid.leaf leaf.0)) a → (value cmp (pairs_at old h root) k ≡ None) × IsPlaced cmp is_summary old mid h root k v h root a
    added_to_cached room v mid any add few a sums =
        added total is_summary old h root k leaf node shape cached_leaf_with_room read slot index room way.0 way.1 mid v None a (root, h) refl
        (λ due same. subst (λ x. IsPlaced cmp is_summary old mid due.top x k v due.top x a) same (placed_added total is_summary old way.0 leaf slot k due v mid add few mid a (risen_untouched total is_summary any mid way.0 a (climbs_added total is_summary old way.0 leaf slot k due v mid add few a sums))))

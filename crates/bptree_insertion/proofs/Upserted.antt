-- A pair is put whose key is in the whole tree, or is not.
use Rattle.std.proofs.Common.{◌≡◌, ℕ, refl, true, false, None, List, [], ◌∷◌, zero, length, sym, ap, ◌∙◌, Some, is_some, slice_get, Option, suc, ◌+◌, subst, arith}
use Rattle.std.specs.declared.cmp.Ordering.{Ordering}
use Rattle.std.specs.Cmp.{IsTotalOrder}
use Rattle.std.specs.Map.{keys_of, values_of}
use Rattle.bptree_keys.specs.Contents.{IsAscending, below, has, value}
use Rattle.bptree_nodes.specs.Inner.{Inner}
use Rattle.bptree_nodes.specs.Leaf.{Leaf, set_value_at}
use Rattle.bptree_nodes.specs.LeafResults.{HasEqualAt}
use Rattle.bptree_nodes.specs.Slot.{Slots, Present, UpdatesLeaf}
use Rattle.bptree_keys.specs.declared.node_id.InnerNodeId.{InnerNodeId}
use Rattle.bptree_keys.specs.declared.node_id.LeafNodeId.{LeafNodeId}
use Rattle.bptree_keys.specs.declared.node_id.NodeId.{NodeId}
use Rattle.bptree_keys.specs.declared.node_id.NodeId.TheVariants as kind
use Rattle.std.proofs.lemmas.Map.Entries.{length-keys_of}
use Rattle.bptree_keys.proofs.Equal.{has_where_value}
use Rattle.bptree_keys.proofs.Updates.{length_put}
use Rattle.bptree_nodes.proofs.LeafContents.{value_at_index}
use Rattle.bptree_invariant.specs.Leaves.{IsLeafFor}
use Rattle.bptree_insertion.specs.Puts.{HasRoomFor, BelongsAt, IsReplaced, IsPlaced, IsPlacedUpTo, SumsUpDue, root_after}
use Rattle.bptree_invariant.specs.Shape.{pairs_at, IsWellShaped, LacksKey}
use Rattle.bptree_invariant.specs.Path.{Way}
use Rattle.bptree_propagation.proofs.Borrowed.{keys_stay, none_if_absent, set_shape, set_keys, borrowed_pairs}
use Rattle.bptree_invariant.proofs.LeafFor.{whole_ascends, node_ascends, value_there, absent_there}

-- the tree of the returned root and height is well shaped
pub placed_at : {K V A : Type 0} (cmp : K → K → Ordering) (is_summary : A → List K → Type 0) (old new : Slots (Inner K A) (Leaf K V)) (h : ℕ) (root : NodeId) (k : K) (v : V) (top : Option InnerNodeId) (a : A) (at : NodeId × ℕ) → at ≡ root_after root h top
    → IsPlacedUpTo cmp is_summary old new h root k v top a → IsPlaced cmp is_summary old new h root k v at.1 at.0 a
placed_at cmp is_summary old new h root k v None a at e placed = rw e placed
placed_at cmp is_summary old new h root k v (Some id) a at e placed =
    let up : suc h ≡ h + 1 = omega arith in
    rw e (subst (λ n. IsPlaced cmp is_summary old new h root k v n (kind.Inner id) a) up placed)

-- a path and its end determine the root and its height
path_reports : {K V A : Type 0} (cmp : K → K → Ordering) (slots : Slots (Inner K A) (Leaf K V)) (k : K) (path : List (InnerNodeId × ℕ × NodeId)) (top other : ℕ) (root at : NodeId) (h : ℕ) (id : NodeId) → Way cmp slots k top root path h id → Way cmp slots k other at path h id
    → (top ≡ other) × (root ≡ at)
path_reports cmp slots k [] top other root at h id way same = (way.0 ∙ sym same.0, way.1 ∙ sym same.1)
path_reports cmp slots k (x ∷ path) zero other root at h id way same = absurd way
path_reports cmp slots k (x ∷ path) (suc m) zero root at h id way same = absurd same
path_reports cmp slots k ((n, i, c) ∷ path) (suc m) (suc other) root at h id (e, node, is, leads, read, below) (e', node', is', leads', read', below') =
    (ap suc (path_reports cmp slots k path m other c c h id below below').0, e ∙ sym e')

module _ {K V A : Type 0} {cmp : K → K → Ordering} (total : IsTotalOrder cmp) (is_summary : A → List K → Type 0) (old : Slots (Inner K A) (Leaf K V)) (h : ℕ) (root : NodeId) (k : K) (leaf : LeafNodeId) (node : Leaf K V)
    (shape : IsWellShaped cmp is_summary old h root) (for' : IsLeafFor cmp old h root k leaf) (read : old.leaf leaf.0 ≡ Present node) where
  -- the pairs of the whole tree ascend
  every_ascends : IsAscending cmp (pairs_at old h root)
  every_ascends = whole_ascends total is_summary old h root k leaf node shape for' read

  there_in_leaf : value cmp (pairs_at old h root) k ≡ value cmp node.pairs k
  there_in_leaf = value_there total is_summary old h root k leaf node shape for' read

  -- the value at the key is replaced
  module _ (i : ℕ) (found : HasEqualAt cmp node.pairs k i) (v was : V) (at : slice_get (values_of node.pairs) i ≡ Some was) (new : Slots (Inner K A) (Leaf K V))
      (updates : UpdatesLeaf old new leaf.0 (Present (record node { pairs = set_value_at node.pairs i v }))) where
    there : value cmp (pairs_at old h root) k ≡ Some was
    there = there_in_leaf ∙ (sym (value_at_index cmp total node.pairs (node_ascends total is_summary old h root k leaf node shape for' read) k i found) ∙ at)

    has_there : has cmp (pairs_at old h root) k ≡ true
    has_there = sym (has_where_value cmp (pairs_at old h root) k) ∙ ap is_some there

    pub replaced : IsReplaced cmp is_summary old new h root k v was
    replaced = record {
      there = there;
      shape = set_shape cmp is_summary old new h root shape leaf node read for'.stored (set_value_at node.pairs i v) (keys_stay node.pairs i v) updates;
      pairs = rw has_there (borrowed_pairs total is_summary old new h root shape every_ascends k leaf node read for' i found v updates);
      keys = set_keys cmp is_summary old new h root shape leaf node read for'.stored (set_value_at node.pairs i v) (keys_stay node.pairs i v) updates;
    }

  -- the key is not in the tree, and belongs at a slot of the leaf
  module _ (slot : ℕ) (index : IsAscending cmp node.pairs → (has cmp node.pairs k ≡ false) × (slot ≡ length (below cmp node.pairs k))) where
    placed : (has cmp node.pairs k ≡ false) × (slot ≡ length (below cmp node.pairs k))
    placed = index (node_ascends total is_summary old h root k leaf node shape for' read)

    pub absent : LacksKey cmp old h root k
    absent = absent_there total is_summary old h root k leaf node shape for' read placed.0

    module _ (room : HasRoomFor cmp (pairs_at old h root) k) (path : List (InnerNodeId × ℕ × NodeId)) (way : Way cmp old k h root path 0 (kind.Leaf leaf)) where
      pub due : (due : BelongsAt cmp is_summary old path leaf slot k) × (due.root ≡ root) × (due.top ≡ h)
      due = (record { top = h; root = root; shape = shape; few = room absent; way = way; absent = rw read placed.0; index = rw read placed.1 }, refl, refl)

      pub sums_up_due : (a : A) → is_summary a (keys_of (pairs_at old h root)) → SumsUpDue cmp is_summary old path leaf slot k a
      sums_up_due a reported given =
          let same = path_reports cmp old k path h given.top root given.root 0 (kind.Leaf leaf) way given.way in
          subst (λ x. is_summary a (keys_of (pairs_at old given.top x))) same.1 (subst (λ n. is_summary a (keys_of (pairs_at old n root))) same.0 reported)

      -- the new tree has the returned root and height
      pub added : (new : Slots (Inner K A) (Leaf K V)) (v : V) (top : Option InnerNodeId) (a : A) (at : NodeId × ℕ) → at ≡ root_after root h top → ((given : BelongsAt cmp is_summary old path leaf slot k) → given.root ≡ root → IsPlacedUpTo cmp is_summary old new given.top root k v top a)
          → (value cmp (pairs_at old h root) k ≡ None) × IsPlaced cmp is_summary old new h root k v at.1 at.0 a
      added new v top a at is done = (
        none_if_absent cmp (pairs_at old h root) k absent,
        placed_at cmp is_summary old new h root k v top a at is (subst (λ n. IsPlacedUpTo cmp is_summary old new n root k v top a) due.2 (done due.0 due.1)),
      )

-- a summary of the keys of a tree is one of the keys of the tree that a key is due in, if both have
-- the same root
pub reported_for_due : {K V A : Type 0} (cmp : K → K → Ordering) (is_summary : A → List K → Type 0) (old : Slots (Inner K A) (Leaf K V)) (h : ℕ) (root : NodeId) (path : List (InnerNodeId × ℕ × NodeId)) (leaf : LeafNodeId) (slot : ℕ) (k : K) (due : BelongsAt cmp is_summary old path leaf slot k) → due.root ≡ root → due.top ≡ h
    → (a : A) → is_summary a (keys_of (pairs_at old h root)) → SumsUpDue cmp is_summary old path leaf slot k a
reported_for_due cmp is_summary old h root path leaf slot k due at up a reported given =
    let same = path_reports cmp old k path due.top given.top due.root given.root 0 (kind.Leaf leaf) due.way given.way in
    subst (λ x. is_summary a (keys_of (pairs_at old given.top x))) (sym at ∙ same.1) (subst (λ n. is_summary a (keys_of (pairs_at old n root))) (sym up ∙ same.0) reported)

-- the nodes of a tree after a pair was put, with the length and the summary that the tree keeps
module _ {K V A : Type 0} {cmp : K → K → Ordering} (total : IsTotalOrder cmp) {is_summary : A → List K → Type 0} {old new : Slots (Inner K A) (Leaf K V)} {h : ℕ} {root : NodeId} {k : K} {v : V} (len : ℕ) (counted : len ≡ length (pairs_at old h root)) where
  -- an equal key was in the tree
  pub as_many : {was : V} → IsReplaced cmp is_summary old new h root k v was → {a : A} → is_summary a (keys_of (pairs_at old h root)) → IsWellShaped cmp is_summary new h root × (len ≡ length (pairs_at new h root)) × is_summary a (keys_of (pairs_at new h root))
  as_many r {a} sums = (
    r.shape,
    counted ∙ (sym (length-keys_of (pairs_at old h root)) ∙ (ap length (sym r.keys) ∙ length-keys_of (pairs_at new h root))),
    subst (is_summary a) (sym r.keys) sums,
  )

  -- the key is new
  pub one_more : {top_height : ℕ} {top : NodeId} {a : A} → IsPlaced cmp is_summary old new h root k v top_height top a → has cmp (pairs_at old h root) k ≡ false → IsAscending cmp (pairs_at old h root)
      → IsWellShaped cmp is_summary new top_height top × (len + 1 ≡ length (pairs_at new top_height top)) × is_summary a (keys_of (pairs_at new top_height top))
  one_more p absent sorted = (
    p.shape,
    rw p.pairs (ap (λ n. n + 1) counted ∙ sym (length_put cmp total (pairs_at old h root) sorted k v ∙ rw absent refl)),
    p.reported,
  )

-- A descent to an end leads a search for any key of its leaf there, and a pair that is removed
-- there is the first or the last.
use Rattle.std.proofs.Common.{◌≡◌, ℕ, ◌+◌, ◌-◌, ◌<◌, ◌^◌, List, [], ◌∷◌, ◌++◌, length, refl, sym, subst, ◌∙◌, arith, None, Some, slice_get}
use Rattle.std.specs.Prelude.{Bool, true, false, cond}
use Rattle.std.specs.declared.cmp.Ordering.{Ordering}
use Rattle.std.specs.declared.cmp.Ordering.TheVariants.{Equal}
use Rattle.std.specs.Cmp.{IsTotalOrder}
use Rattle.std.specs.Map.{keys_of}
use Rattle.bptree_keys.specs.Contents.{IsAscending, del}
use Rattle.bptree_keys.specs.declared.node_id.InnerNodeId.{InnerNodeId}
use Rattle.bptree_keys.specs.declared.node_id.LeafNodeId.{LeafNodeId}
use Rattle.bptree_keys.specs.declared.node_id.NodeId.{NodeId}
use Rattle.bptree_keys.specs.declared.node_id.NodeId.TheVariants as kind
use Rattle.bptree_nodes.specs.Inner.{Inner}
use Rattle.bptree_nodes.specs.Leaf.{Leaf}
use Rattle.bptree_nodes.specs.LeafResults.{HasEqualAt}
use Rattle.bptree_nodes.specs.Slot.{Slot, Slots, Free, Held, Present}
use Rattle.bptree_invariant.specs.Leaves.{IsLeafOf, pairs_of}
use Rattle.bptree_invariant.specs.Shape.{leaf_pairs, pairs_at, root_least, IsWellShaped}
use Rattle.bptree_invariant.proofs.ListReads.{read_below, read_some}
use Rattle.bptree_invariant.proofs.Walk.{tree_ascends}
use Rattle.bptree_search.specs.ByArgument.{IsSubtree, GoesOn}
use Rattle.bptree_propagation.proofs.LeafClimb.{leaf_fits}
use Rattle.bptree_search.proofs.Beside.{equal_at}
use Rattle.bptree_search.proofs.Selected.{goes_on, index_read}
use Rattle.bptree_removal.proofs.Deleted.{alike, deleted_by}
use Rattle.bptree_removal.specs.Removal.{IsThere, LeavesTree, IsFound, IsEntryAt, IsTakenFrom, IsTakenAt, IsEntryTaken, LeadsOn, LeftAt}

module _ {K V A : Type 0} {cmp : K → K → Ordering} (total : IsTotalOrder cmp) (is_summary : A → List K → Type 0) (slots : Slots (Inner K A) (Leaf K V)) where
  -- if a search goes on from a child to a leaf, it goes on from the node above the child
  pub leads_on : (h : ℕ) (id : InnerNodeId) (node : Inner K A) → IsSubtree cmp is_summary slots h (kind.Inner id) → slots.inner id.0 ≡ Present node → (i : ℕ) (child : NodeId) → slice_get node.children i ≡ Some child
      → (path longer : List (InnerNodeId × ℕ × NodeId)) (leaf : LeafNodeId) → IsLeafOf slots (h - 1) child leaf → LeadsOn cmp slots (h - 1) child (path ++ (id, i, child) ∷ []) longer leaf → LeadsOn cmp slots h (kind.Inner id) path longer leaf
  leads_on h id node s e i child read path longer leaf stored on slot =
      λ pair there. goes_on total is_summary slots (λ (query : Unit {0}) keys index. Unit {0}) (tt {0}) h id node s e i child read path longer (Some (record { leaf = leaf; slot = slot })) (stored, read_below (leaf_pairs (slots.leaf leaf.0)) slot pair there, tt {0}) (on slot) pair there

-- a key that was found in the tree of a root is at its slot
abbrev pub there_of : {K V A : Type 0} {cmp : K → K → Ordering} {is_summary : A → List K → Type 0} {slots : Slots (Inner K A) (Leaf K V)} {height : ℕ} {root : NodeId} {path : List (InnerNodeId × ℕ × NodeId)} {leaf : LeafNodeId} {slot : ℕ} {k : K} → IsFound cmp is_summary slots height root path leaf slot k → IsThere cmp is_summary slots path leaf slot k
there_of {height = height} {root = root} f = record { top = height; root = root; shape = f.shape; few = f.few; way = f.way; found = f.found }

module _ {K V A : Type 0} {cmp : K → K → Ordering} (total : IsTotalOrder cmp) (is_summary : A → List K → Type 0) (old new : Slots (Inner K A) (Leaf K V)) (h : ℕ) (root : NodeId) (shape : IsWellShaped cmp is_summary old h root) where
  sorted : IsAscending cmp (pairs_at old h root)
  sorted = tree_ascends total old (root_least h) h root None None shape.tree

  -- the pair that was removed from a leaf was removed at its index
  pub taken_at : (leaf : LeafNodeId) (slot : ℕ) (k : K) (pair : K × V) (top : NodeId) (top_height : ℕ) (a : A) (index : ℕ) → IsTakenFrom cmp is_summary old new h root leaf slot k pair top top_height a → cmp pair.0 k ≡ Equal → slice_get (pairs_at old h root) index ≡ Some pair → IsTakenAt cmp is_summary old new h root index pair top top_height a
  taken_at leaf slot k pair top top_height a index taken equal was = record {
    was = was;
    shape = taken.shape;
    pairs = taken.pairs ∙ sym (deleted_by total (pairs_at old h root) index pair k sorted was equal);
    reported = taken.reported;
  }

-- a pair was removed from its leaf, and then the root was replaced by its only child
pub taken_from : {K V A : Type 0} {cmp : K → K → Ordering} (is_summary : A → List K → Type 0) (old mid new : Slots (Inner K A) (Leaf K V)) (h : ℕ) (root : NodeId) (leaf : LeafNodeId) (slot : ℕ) (k : K) (pair : K × V) (top : NodeId) (top_height : ℕ) (a : A)
    → LeavesTree cmp is_summary old mid h root leaf slot k pair a → IsWellShaped cmp is_summary new top_height top → pairs_at new top_height top ≡ pairs_at mid h root → IsTakenFrom cmp is_summary old new h root leaf slot k pair top top_height a
taken_from is_summary old mid new h root leaf slot k pair top top_height a gone shape pairs = record {
  pair_was = gone.pair_was;
  shape = shape;
  pairs = pairs ∙ gone.pairs;
  reported = subst (λ l. is_summary a (keys_of l)) (sym pairs) gone.reported;
}

-- a pair was removed by a key that no other leaf can hold
pub entry_taken : {K V A : Type 0} {cmp : K → K → Ordering} (total : IsTotalOrder cmp) (is_summary : A → List K → Type 0) (old new : Slots (Inner K A) (Leaf K V)) (h : ℕ) (root : NodeId) (path : List (InnerNodeId × ℕ × NodeId)) (leaf : LeafNodeId) (slot : ℕ) (k : K) (pair : K × V) (top : NodeId) (top_height : ℕ) (a : A)
    → IsEntryAt cmp is_summary old h root path leaf slot k → IsTakenFrom cmp is_summary old new h root leaf slot k pair top top_height a → IsEntryTaken cmp is_summary old new h root k pair top top_height a
entry_taken {cmp = cmp} total is_summary old new h root path leaf slot k pair top top_height a at taken =
    let index = length (pairs_of old at.1.stored.before) + slot in
    let equal : cmp pair.0 k ≡ Equal = rw taken.pair_was at at.0.found in (
      index,
      equal,
      taken_at total is_summary old new h root at.0.shape leaf slot k pair top top_height a index taken equal (index_read old h root leaf at.1.stored slot pair taken.pair_was),
    )

-- a list whose length a machine number counts has a length that fits
pub few_of : {X : Type 0} (n : ℕ) (l : List X) → n ≡ length l → n < 2 ^ 64 → length l < 2 ^ 64
few_of n l is fits = omega (arith, is, fits)

-- a leaf that has a pair at a slot is present
node_of : {K V : Type 0} (s : Slot (Leaf K V)) (i : ℕ) → i < length (leaf_pairs s) → (node : Leaf K V) × (s ≡ Present node)
node_of Free i within = absurd (omega arith)
node_of Held i within = absurd (omega arith)
node_of (Present node) i within = (node, refl)

-- an index within a list reads a member, and an empty list has no member at its ends
pub none_here : {X : Type 0} (xs : List X) (i : ℕ) → length xs ≡ 0 → slice_get xs i ≡ None
none_here [] i none = refl
none_here (x ∷ xs) i none = absurd (omega arith)

pub some_here : {X : Type 0} (xs : List X) (i : ℕ) → i < length xs → slice_get xs i ≡ None → ⊥
some_here xs i within none = let there = read_some xs i within in let z : Some there.0 ≡ None = sym there.1 ∙ none in cc

pub none_at_end : {X : Type 0} (is_last : Bool) (xs : List X) → slice_get xs (cond is_last (length xs - 1) 0) ≡ None → xs ≡ []
none_at_end is_last [] none = refl
none_at_end true (x ∷ xs) none = absurd (some_here (x ∷ xs) (length (x ∷ xs) - 1) (omega arith) none)
none_at_end false (x ∷ xs) none = cc

module _ {K V A : Type 0} {cmp : K → K → Ordering} (total : IsTotalOrder cmp) (is_summary : A → List K → Type 0) (old : Slots (Inner K A) (Leaf K V)) (h : ℕ) (root : NodeId) (shape : IsWellShaped cmp is_summary old h root) (few : length (pairs_at old h root) < 2 ^ 64)
    (leaf : LeafNodeId) (slot : ℕ) (within : slot < length (leaf_pairs (old.leaf leaf.0))) (path longer : List (InnerNodeId × ℕ × NodeId)) (none : path ≡ []) (on : GoesOn cmp old h root path longer (Some (record { leaf = leaf; slot = slot }))) where
  abbrev pub pair_there : (pair : K × V) × (slice_get (leaf_pairs (old.leaf leaf.0)) slot ≡ Some pair)
  pair_there = read_some (leaf_pairs (old.leaf leaf.0)) slot within

  -- the key at a slot of the leaf is found by the path to the leaf
  abbrev pub found_there : IsFound cmp is_summary old h root longer leaf slot pair_there.0.0
  found_there = record {
    shape = shape;
    few = few;
    way = on pair_there.0 pair_there.1 h root (rw none (refl, refl));
    found = rw pair_there.1 (alike total pair_there.0.0);
  }

  -- no other leaf can hold the key
  pub entry_there : IsEntryAt cmp is_summary old h root longer leaf slot pair_there.0.0
  entry_there =
      let node = node_of (old.leaf leaf.0) slot within in
      let equal = subst (λ (s : Slot (Leaf K V)). HasEqualAt cmp (leaf_pairs s) pair_there.0.0 slot) node.1 found_there.found in
      let fits = leaf_fits is_summary old longer leaf pair_there.0.0 h root shape found_there.way node.0 node.1 in
      (found_there, (equal_at total is_summary old h root shape pair_there.0.0 leaf node.0 slot node.1 equal fits).for_key)

  -- the pair is removed at its index
  pub left_there : (pair : K × V) (new : List (K × V)) (index : ℕ) → slice_get (leaf_pairs (old.leaf leaf.0)) slot ≡ slice_get (pairs_at old h root) index → slice_get (leaf_pairs (old.leaf leaf.0)) slot ≡ Some pair → cmp pair.0 pair_there.0.0 ≡ Equal → new ≡ del cmp (pairs_at old h root) pair_there.0.0
      → LeftAt (pairs_at old h root) new index pair
  left_there pair new index at was equal is =
      let all = tree_ascends total old (root_least h) h root None None shape.tree in
      (sym at ∙ was, is ∙ sym (deleted_by total (pairs_at old h root) index pair pair_there.0.0 all (sym at ∙ was) equal))

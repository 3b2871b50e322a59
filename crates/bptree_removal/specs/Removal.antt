-- Removal of a pair from a whole tree.
use Rattle.std.specs.Prelude.{◌≡◌, ℕ, ◌-◌, ◌<◌, ◌^◌, Bool, cond, false, List, [], length, Option, Some, None, Result, IfOk, MatchOption, slice_get, remove}
use Rattle.std.specs.declared.cmp.Ordering.{Ordering}
use Rattle.std.specs.declared.cmp.Ordering.TheVariants.{Equal}
use Rattle.std.specs.Map.{keys_of}
use Rattle.bptree_keys.specs.Contents.{has, del}
use Rattle.bptree_nodes.specs.Inner.{Inner}
use Rattle.bptree_nodes.specs.Leaf.{Leaf}
use Rattle.bptree_nodes.specs.LeafResults.{HasEqualAt}
use Rattle.bptree_nodes.specs.Slot.{Slots, Present, UpdatesLeaf}
use Rattle.bptree_keys.specs.declared.node_id.InnerNodeId.{InnerNodeId}
use Rattle.bptree_keys.specs.declared.node_id.LeafNodeId.{LeafNodeId}
use Rattle.bptree_keys.specs.declared.node_id.NodeId.{NodeId}
use Rattle.bptree_keys.specs.declared.node_id.Position.{Position}
use Rattle.bptree_keys.specs.declared.node_id.NodeId.TheVariants as kind
use Rattle.bptree_invariant.specs.Leaves.{IsLeafFor}
use Rattle.bptree_invariant.specs.NodeTree.{NodeTree}
use Rattle.bptree_invariant.specs.Path.{Way}
use Rattle.bptree_search.specs.ByArgument.{GoesOn}
use Rattle.bptree_invariant.specs.Shape.{leaf_next, leaf_pairs, leaf_prev, pairs_at, IsWellShaped}
use Rattle.bptree_rebalancing.specs.Trim.{IsLoose}

-- the leaf at the end of a path has a key at a slot
pub record IsThere {K V A : Type 0} (cmp : K → K → Ordering) (is_summary : A → List K → Type 0) (slots : Slots (Inner K A) (Leaf K V)) (path : List (InnerNodeId × ℕ × NodeId)) (leaf : LeafNodeId) (slot : ℕ) (k : K) : Type 0 where
  pub top : ℕ
  pub root : NodeId
  pub shape : IsWellShaped cmp is_summary slots top root
  pub few : length (pairs_at slots top root) < 2 ^ 64
  pub way : Way cmp slots k top root path 0 (kind.Leaf leaf)
  pub found : HasEqualAt cmp (leaf_pairs (slots.leaf leaf.0)) k slot

-- the pair at a slot of a leaf was removed from a whole tree, whose root may have no key then
pub record LeavesTree {K V A : Type 0} (cmp : K → K → Ordering) (is_summary : A → List K → Type 0) (old new : Slots (Inner K A) (Leaf K V)) (height : ℕ) (root : NodeId) (leaf : LeafNodeId) (slot : ℕ) (k : K) (pair : K × V) (a : A) : Type 0 where
  pub pair_was : slice_get (leaf_pairs (old.leaf leaf.0)) slot ≡ Some pair
  pub loose : IsLoose cmp is_summary new height root
  pub pairs : pairs_at new height root ≡ del cmp (pairs_at old height root) k
  pub reported : is_summary a (keys_of (pairs_at new height root))

-- the leaf at the end of a path has a key at a slot, in the tree of this root and height
pub record IsFound {K V A : Type 0} (cmp : K → K → Ordering) (is_summary : A → List K → Type 0) (slots : Slots (Inner K A) (Leaf K V)) (height : ℕ) (root : NodeId) (path : List (InnerNodeId × ℕ × NodeId)) (leaf : LeafNodeId) (slot : ℕ) (k : K) : Type 0 where
  pub shape : IsWellShaped cmp is_summary slots height root
  pub few : length (pairs_at slots height root) < 2 ^ 64
  pub way : Way cmp slots k height root path 0 (kind.Leaf leaf)
  pub found : HasEqualAt cmp (leaf_pairs (slots.leaf leaf.0)) k slot

-- the leaf at the end of a path has a key at a slot, and is the only leaf that can hold the key
abbrev pub IsEntryAt : {K V A : Type 0} → (K → K → Ordering) → (A → List K → Type 0) → Slots (Inner K A) (Leaf K V) → ℕ → NodeId → List (InnerNodeId × ℕ × NodeId) → LeafNodeId → ℕ → K → Type 0
IsEntryAt cmp is_summary slots height root path leaf slot k =
    IsFound cmp is_summary slots height root path leaf slot k × IsLeafFor cmp slots height root k leaf

-- the pair at a slot of a leaf was removed from a whole tree by its key, and the tree of the new
-- root and height is well shaped
pub record IsTakenFrom {K V A : Type 0} (cmp : K → K → Ordering) (is_summary : A → List K → Type 0) (old new : Slots (Inner K A) (Leaf K V)) (height : ℕ) (root : NodeId) (leaf : LeafNodeId) (slot : ℕ) (k : K) (pair : K × V) (top : NodeId) (top_height : ℕ) (a : A) : Type 0 where
  pub pair_was : slice_get (leaf_pairs (old.leaf leaf.0)) slot ≡ Some pair
  pub shape : IsWellShaped cmp is_summary new top_height top
  pub pairs : pairs_at new top_height top ≡ del cmp (pairs_at old height root) k
  pub reported : is_summary a (keys_of (pairs_at new top_height top))

-- the pair at an index was removed from a whole tree
pub record IsTakenAt {K V A : Type 0} (cmp : K → K → Ordering) (is_summary : A → List K → Type 0) (old new : Slots (Inner K A) (Leaf K V)) (height : ℕ) (root : NodeId) (index : ℕ) (pair : K × V) (top : NodeId) (top_height : ℕ) (a : A) : Type 0 where
  pub was : slice_get (pairs_at old height root) index ≡ Some pair
  pub shape : IsWellShaped cmp is_summary new top_height top
  pub pairs : pairs_at new top_height top ≡ remove (pairs_at old height root) index
  pub reported : is_summary a (keys_of (pairs_at new top_height top))

-- the pair whose key equals k was removed, with the key that was stored
abbrev pub IsEntryTaken : {K V A : Type 0} → (K → K → Ordering) → (A → List K → Type 0) → Slots (Inner K A) (Leaf K V) → Slots (Inner K A) (Leaf K V) → ℕ → NodeId → K → K × V → NodeId → ℕ → A → Type 0
IsEntryTaken cmp is_summary old new height root k pair top top_height a =
    (index : ℕ) × (cmp pair.0 k ≡ Equal) × IsTakenAt cmp is_summary old new height root index pair top top_height a

-- a search for any key of a leaf that reached a node by a path goes on from there to the leaf by a
-- longer path
abbrev pub LeadsOn : {K V A : Type 0} → (K → K → Ordering) → Slots (Inner K A) (Leaf K V) → ℕ → NodeId → List (InnerNodeId × ℕ × NodeId) → List (InnerNodeId × ℕ × NodeId) → LeafNodeId → Type 0
LeadsOn cmp slots height id path longer leaf = (slot : ℕ) → GoesOn cmp slots height id path longer (Some (record { leaf = leaf; slot = slot }))

module _ {K V A : Type 0} (old new : Slots (Inner K A) (Leaf K V)) where
  -- a pair was removed from its leaf (`TakesPair`), or is stored in it again (`PutsPairBack`)
  abbrev pub TakesPair : LeafNodeId → ℕ → Type 0
  TakesPair id slot = (was : Leaf K V) → old.leaf id.0 ≡ Present was → UpdatesLeaf old new id.0 (Present (record was { pairs = remove was.pairs slot }))

  abbrev pub PutsPairBack : LeafNodeId → ℕ → K × V → Type 0
  PutsPairBack id slot pair =
      (was : Slots (Inner K A) (Leaf K V)) (node : Leaf K V) → was.leaf id.0 ≡ Present node → slice_get node.pairs slot ≡ Some pair → UpdatesLeaf was old id.0 (Present (record node { pairs = remove node.pairs slot })) → new ≡ was

  -- the tree of another root and height has the pairs that the tree of a root had
  abbrev pub KeepsPairs : ℕ → NodeId → NodeId × ℕ → Type 0
  KeepsPairs height root top = pairs_at new top.1 top.0 ≡ pairs_at old height root

module _ {K V A : Type 0} (slots : Slots (Inner K A) (Leaf K V)) (id : LeafNodeId) where
  -- a leaf has no pair (`NoPairIn`), or more than it needs (`HasSpare`)
  abbrev pub NoPairIn : Type 0
  NoPairIn = leaf_pairs (slots.leaf id.0) ≡ []

  abbrev pub HasSpare : Type 0
  HasSpare = 16 < length (leaf_pairs (slots.leaf id.0))

-- a leaf has no leaf before it, or behind it, as the flag says; it has more pairs than it needs;
-- and every value is a summary of every list
pub record IsSpareEnd {K V A : Type 0} (is_summary : A → List K → Type 0) (slots : Slots (Inner K A) (Leaf K V)) (is_last : Bool) (id : LeafNodeId) : Type 0 where
  pub none : cond is_last (leaf_next (slots.leaf id.0)) (leaf_prev (slots.leaf id.0)) ≡ None
  pub spare : 16 < length (leaf_pairs (slots.leaf id.0))
  pub any : (a : A) (keys : List K) → is_summary a keys

module _ {K V A : Type 0} (cmp : K → K → Ordering) (is_summary : A → List K → Type 0) where
  -- the leaf at the end of a path has a pair at a slot, and a value is a summary of the keys of the
  -- whole tree
  abbrev pub HasPair : Slots (Inner K A) (Leaf K V) → List (InnerNodeId × ℕ × NodeId) → A → LeafNodeId → ℕ → Type 0
  HasPair slots path whole leaf slot =
      (k : K) × (there : IsThere cmp is_summary slots path leaf slot k) × is_summary whole (keys_of (pairs_at slots there.top there.root))

  -- if a call succeeded, that pair was removed from the tree
  abbrev pub TakesOut : {E : Type 0} → Slots (Inner K A) (Leaf K V) → Slots (Inner K A) (Leaf K V) → List (InnerNodeId × ℕ × NodeId) → A → LeafNodeId → ℕ → Result ((K × V) × A) E → Type 0
  TakesOut old new path whole leaf slot done =
      (k : K) (there : IsThere cmp is_summary old path leaf slot k) → is_summary whole (keys_of (pairs_at old there.top there.root))
      → IfOk done (λ taken. LeavesTree cmp is_summary old new there.top there.root leaf slot k taken.0 taken.1)

module _ {S K V A : Type 0} (slots : S → Slots (Inner K A) (Leaf K V)) (cmp : K → K → Ordering) (is_summary : A → List K → Type 0) where
  -- the only leaf of a tree that can hold a key has it at a slot, at the end of a path
  abbrev pub IsEntryIn : NodeTree S K V A → List (InnerNodeId × ℕ × NodeId) → K → Position → Type 0
  IsEntryIn tree path k at = IsEntryAt cmp is_summary (slots tree.store) tree.height tree.root path at.leaf at.slot k

  -- if a call succeeded, the pair at the position was removed from the tree
  abbrev pub TakesAt : {E : Type 0} → NodeTree S K V A → NodeTree S K V A → List (InnerNodeId × ℕ × NodeId) → Position → Result (K × V) E → Type 0
  TakesAt old new path at done =
      (k : K) → IsEntryIn old path k at → IfOk done (λ pair. (slice_get (leaf_pairs ((slots old.store).leaf at.leaf.0)) at.slot ≡ Some pair) × (cmp pair.0 k ≡ Equal) × (new.contents ≡ del cmp old.contents k))

-- the member at an index was removed from a list
abbrev pub LeftAt : {X : Type 0} → List X → List X → ℕ → X → Type 0
LeftAt old new index x = (slice_get old index ≡ Some x) × (new ≡ remove old index)

module _ {K V : Type 0} (old new : List (K × V)) where
  -- the pair with a key was removed, or no key equals it and nothing changed
  abbrev pub RemovesKeyFrom : (K → K → Ordering) → K → Option (K × V) → Type 0
  RemovesKeyFrom cmp k gone =
      MatchOption gone ((has cmp old k ≡ false) × (new ≡ old)) (λ pair. (index : ℕ) × (slice_get old index ≡ Some pair) × (cmp pair.0 k ≡ Equal) × (new ≡ del cmp old k))

  -- the first pair was removed, or the last one, or there was no pair and nothing changed
  abbrev pub RemovesEnd : Bool → Option (K × V) → Type 0
  RemovesEnd is_last gone = MatchOption gone ((old ≡ []) × (new ≡ old)) (LeftAt old new (cond is_last (length old - 1) 0))

  -- the pair at an index that is allowed for a query was removed, or no index is allowed and
  -- nothing changed
  abbrev pub RemovesSelected : {Q : Type 0} → (Q → List K → Option ℕ → Type 0) → Q → Option (K × V) → Type 0
  RemovesSelected selects query gone =
      MatchOption gone (selects query (keys_of old) None × (new ≡ old)) (λ pair. (index : ℕ) × selects query (keys_of old) (Some index) × LeftAt old new index pair)

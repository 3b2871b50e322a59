-- The position of a key in a tree, and the pairs beside it.
use Rattle.std.specs.Prelude.{◌≡◌, ℕ, ◌+◌, ◌≤◌, ◌++◌, Bool, true, false, List, [], drop, length, slice_get, take, Option, Some, None, Result, Ok, Err}
use Rattle.std.specs.Borrow.{Bor}
use Rattle.std.specs.declared.cmp.Ordering.{Ordering}
use Rattle.bptree_keys.specs.Contents.{last_member, next}
use Rattle.bptree_keys.specs.Ends.{is_after}
use Rattle.bptree_keys.specs.Indexes.{IsIndexOf}
use Rattle.bptree_keys.specs.Ranges.{between}
use Rattle.bptree_keys.specs.declared.end.Side.{Side}
use Rattle.bptree_keys.specs.declared.node_id.LeafNodeId.{LeafNodeId}
use Rattle.bptree_keys.specs.declared.node_id.NodeId.{NodeId}
use Rattle.bptree_keys.specs.declared.node_id.Position.{Position}
use Rattle.bptree_nodes.specs.Inner.{Inner}
use Rattle.bptree_nodes.specs.Leaf.{Leaf}
use Rattle.bptree_nodes.specs.Slot.{Present, Slots}
use Rattle.bptree_invariant.specs.Leaves.{IsLeafFor}
use Rattle.bptree_invariant.specs.NodeTree.{NodeTree}
use Rattle.bptree_invariant.specs.Shape.{leaf_next, leaf_pairs, leaf_prev}

-- the pairs of the leaf that a link names, or no pairs if the link is `None`
abbrev pub leaf_pairs_of : {K V A : Type 0} → Slots (Inner K A) (Leaf K V) → Option LeafNodeId → List (K × V)
leaf_pairs_of slots None = []
leaf_pairs_of slots (Some id) = leaf_pairs (slots.leaf id.0)

-- the slot of a key that was searched for, or the slot after it if there is such a key and `after` is true
abbrev pub beside : Result ℕ ℕ → Bool → ℕ
beside (Ok i) true = i + 1
beside (Ok i) false = i
beside (Err i) after = i

-- the result of a search of a leaf, as a position
abbrev pub in_leaf : LeafNodeId → Result ℕ ℕ → Result Position Position
in_leaf leaf (Ok i) = Ok (record { leaf = leaf; slot = i })
in_leaf leaf (Err i) = Err (record { leaf = leaf; slot = i })

-- the leaf of a found position, and the result of the search in that leaf
abbrev pub leaf_of_result : Result Position Position → LeafNodeId
leaf_of_result (Ok at) = at.leaf
leaf_of_result (Err at) = at.leaf

abbrev pub slot_of_result : Result Position Position → Result ℕ ℕ
slot_of_result (Ok at) = Ok at.slot
slot_of_result (Err at) = Err at.slot

-- the position that was found, or the one after it if there is such a key and `after` is true
abbrev pub position_beside : Result Position Position → Bool → Position
position_beside found after = record { leaf = leaf_of_result found; slot = beside (slot_of_result found) after }

-- the leaf is the one at an id
abbrev pub IsLeafAtPosition : {K V A : Type 0} → Slots (Inner K A) (Leaf K V) → LeafNodeId → Leaf K V → Type 0
IsLeafAtPosition slots id leaf = slots.leaf id.0 ≡ Present leaf

-- the leaf is the one for the key, and the slot is the key's in that leaf
pub record IsIndexAt {K V A : Type 0} (cmp : K → K → Ordering) (slots : Slots (Inner K A) (Leaf K V)) (h : ℕ) (root : NodeId) (k : K) (id : LeafNodeId) (index : Result ℕ ℕ) : Type 0 where
  pub for_key : IsLeafFor cmp slots h root k id
  pub index_is : IsIndexOf cmp (leaf_pairs (slots.leaf id.0)) k index
  pub fits : length (leaf_pairs (slots.leaf id.0)) ≤ 64

-- the position that a search found is the key's
abbrev pub LocatesKey : {S K V A : Type 0} → (S → Slots (Inner K A) (Leaf K V)) → NodeTree S K V A → (K → K → Ordering) → K → Result Position Position → Type 0
LocatesKey slots tree cmp k found = IsIndexAt cmp (slots tree.store) tree.height tree.root k (leaf_of_result found) (slot_of_result found)

-- the pair with the least key that is not below k
abbrev pub at_least : {K V : Type 0} → (K → K → Ordering) → List (K × V) → K → Option (K × V)
at_least cmp l k = slice_get (between cmp l (Some k) None) 0

-- the pair with the least key that is not below k or, if the flag is true, with the least key above
-- k
abbrev pub first_beside : {K V : Type 0} → (K → K → Ordering) → List (K × V) → K → Bool → Option (K × V)
first_beside cmp l k false = at_least cmp l k
first_beside cmp l k true = next cmp l k

abbrev pub pair_on : {K V : Type 0} → (K → K → Ordering) → List (K × V) → K → Side → Option (K × V)
pair_on cmp l k side = first_beside cmp l k (is_after side)

-- the pair that was read, with the key and the value that its references point to
abbrev pub pair_read : {K V X : Type 0} → X × (Bor K × Bor V) → K × V
pair_read found = (found.1.0.now, found.1.1.now)

module _ {K V A : Type 0} (slots : Slots (Inner K A) (Leaf K V)) (at : Position) where
  -- the first pair from a position on, which may be that of the next leaf; and the last pair before
  -- a position, which may be that of the previous leaf
  abbrev pub first_from : Option (K × V)
  first_from = slice_get (drop at.slot (leaf_pairs (slots.leaf at.leaf.0)) ++ leaf_pairs_of slots (leaf_next (slots.leaf at.leaf.0))) 0

  abbrev pub last_upto : Option (K × V)
  last_upto = last_member (leaf_pairs_of slots (leaf_prev (slots.leaf at.leaf.0)) ++ take at.slot (leaf_pairs (slots.leaf at.leaf.0)))

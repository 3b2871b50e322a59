-- The pair of a key, by the leaf that can hold the key.
use Rattle.std.proofs.Common.{◌≡◌, ◌+◌, ℕ, suc, true, false, not, List, [], ◌∷◌, ◌++◌, length, take, drop, refl, None, Some, slice_get}
use Rattle.std.specs.Prelude.{◌&&◌}
use Rattle.std.specs.declared.cmp.Ordering.{Ordering}
use Rattle.std.specs.declared.cmp.Ordering.TheVariants.{Less, Equal}
use Rattle.std.specs.Cmp.{IsTotalOrder}
use Rattle.std.specs.Option.{option_map}
use Rattle.std.specs.Ordering.{is_lt, is_eq}
use Rattle.std.proofs.lemmas.List.Elements.{filter-append}
use Rattle.std.proofs.lemmas.Option.{get_or_from_slice_get}
use Rattle.bptree_keys.specs.Contents.{IsAscending, has, value}
use Rattle.bptree_keys.specs.Indexes.{AllCompare, IsHit}
use Rattle.bptree_keys.specs.declared.node_id.LeafNodeId.{LeafNodeId}
use Rattle.bptree_keys.specs.declared.node_id.NodeId.{NodeId}
use Rattle.bptree_keys.proofs.Found.{hit_at}
use Rattle.bptree_keys.proofs.Parted.{filter_none}
use Rattle.bptree_nodes.specs.Inner.{Inner}
use Rattle.bptree_nodes.specs.Leaf.{Leaf}
use Rattle.bptree_nodes.specs.LeafResults.{HasEqualAt}
use Rattle.bptree_nodes.specs.Slot.{Slots, Present}
use Rattle.bptree_invariant.specs.Leaves.{pairs_of, IsLeafFor}
use Rattle.bptree_invariant.specs.Shape.{pairs_at, root_least, IsWellShaped}
use Rattle.bptree_invariant.proofs.Ordered.{by_cases}
use Rattle.bptree_invariant.proofs.Walk.{tree_ascends}
use Rattle.bptree_search.proofs.Selected.{index_read}
use Rattle.bptree_tree.specs.Entries.{entry, at_least}

module _ {K V : Type 0} (cmp : K → K → Ordering) where
  -- pairs whose keys do not compare as equal are passed over
  entry_past : (k : K) (o : Ordering) (before l : List (K × V)) → is_eq o ≡ false → AllCompare cmp k o before → entry cmp (before ++ l) k ≡ entry cmp l k
  entry_past k o [] l fails all = refl
  entry_past k o (p ∷ before) l fails all = rw (all.0, fails) (entry_past k o before l fails all.1)

  pub entry_hit : (l before : List (K × V)) (pair : K × V) (after : List (K × V)) (k : K) → IsHit cmp l before pair after k → entry cmp l k ≡ Some pair
  entry_hit l before pair after k hit = rw (hit.parts, entry_past k Less before (pair ∷ after) refl hit.smaller, hit.equal) refl

  pub at_least_hit : (l before : List (K × V)) (pair : K × V) (after : List (K × V)) (k : K) → IsHit cmp l before pair after k → at_least cmp l k ≡ Some pair
  at_least_hit l before pair after k hit = rw (hit.parts, filter-append, filter_none cmp k (λ o. not (is_lt o) && true) Less before refl hit.smaller, hit.equal) refl

  -- no pair has a key that is not there
  pub entry_absent : (l : List (K × V)) (k : K) → has cmp l k ≡ false → entry cmp l k ≡ None
  entry_absent [] k absent = refl
  entry_absent (p ∷ l) k absent =
      by_cases (cmp p.0 k) (λ less. rw less (entry_absent l k (rw less at absent))) (λ equal. let z : true ≡ false = rw equal at absent in cc)
      (λ greater. rw greater (entry_absent l k (rw greater at absent)))

  -- the value of that pair is the one at the key
  pub entry_value : (l : List (K × V)) (k : K) → option_map (λ pair. pair.1) (entry cmp l k) ≡ value cmp l k
  entry_value [] k = refl
  entry_value (p ∷ l) k = by_cases (cmp p.0 k) (λ less. rw less (entry_value l k)) (λ equal. rw equal refl) (λ greater. rw greater (entry_value l k))

-- the pair at an index is the pair of each key that equals its key
pub entry_at : {K V : Type 0} {cmp : K → K → Ordering} → IsTotalOrder cmp → (l : List (K × V)) (i : ℕ) (pair : K × V) (k : K) → IsAscending cmp l → slice_get l i ≡ Some pair → cmp pair.0 k ≡ Equal → entry cmp l k ≡ Some pair
entry_at {cmp = cmp} total l i pair k sorted read equal = entry_hit cmp l _ pair _ k (rw (get_or_from_slice_get l i pair pair read) at (hit_at cmp total l sorted k i pair (rw read equal)).1)

module _ {K V A : Type 0} {cmp : K → K → Ordering} (total : IsTotalOrder cmp) (is_summary : A → List K → Type 0) (slots : Slots (Inner K A) (Leaf K V)) (h : ℕ) (root : NodeId) (shape : IsWellShaped cmp is_summary slots h root)
    (k : K) (leaf : LeafNodeId) (node : Leaf K V) (for' : IsLeafFor cmp slots h root k leaf) (here : slots.leaf leaf.0 ≡ Present node) (slot : ℕ) (pair : K × V) (found : HasEqualAt cmp node.pairs k slot) (read : slice_get node.pairs slot ≡ Some pair) where
  abbrev pub whole : List (K × V)
  whole = pairs_at slots h root

  sorted : IsAscending cmp whole
  sorted = tree_ascends total slots (root_least h) h root None None shape.tree

  abbrev pub index : ℕ
  index = length (pairs_of slots for'.stored.before) + slot

  read_whole : slice_get whole index ≡ Some pair
  read_whole = index_read slots h root leaf for'.stored slot pair (rw here read)

  equal : cmp pair.0 k ≡ Equal
  equal = rw read at found

  pub hit_there : IsHit cmp whole (take index whole) pair (drop (suc index) whole) k
  hit_there = rw (get_or_from_slice_get whole index pair pair read_whole) at (hit_at cmp total whole sorted k index pair (rw read_whole equal)).1

  pub entry_there : entry cmp (pairs_at slots h root) k ≡ Some pair
  entry_there = entry_hit cmp whole _ pair _ k hit_there

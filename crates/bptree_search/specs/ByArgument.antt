-- What reads by summaries require of a tree, and their results.
use Rattle.std.specs.Prelude.{◌≡◌, ℕ, ◌+◌, ◌<◌, ◌^◌, List, [], ◌++◌, length, Option, Some, None, Result, MatchResult, is_ok, slice_get, remove}
use Rattle.std.specs.declared.cmp.Ordering.{Ordering}
use Rattle.std.specs.List.Sorted.{IsStrictlySortedBy}
use Rattle.std.specs.Map.{keys_of}
use Rattle.std.specs.Option.{option_and_then}
use Rattle.bptree_arguments.specs.Ranks.{AllAbove, AllBelow}
use Rattle.bptree_arguments.specs.Selection.{IsIndexBelow}
use Rattle.bptree_keys.specs.Contents.{has}
use Rattle.bptree_keys.specs.Ranges.{part_at}
use Rattle.bptree_nodes.specs.Inner.{Inner}
use Rattle.bptree_nodes.specs.Leaf.{Leaf}
use Rattle.bptree_nodes.specs.Slot.{Slots}
use Rattle.bptree_keys.specs.declared.node_id.InnerNodeId.{InnerNodeId}
use Rattle.bptree_keys.specs.declared.node_id.NodeId.{NodeId}
use Rattle.bptree_keys.specs.declared.node_id.Position.{Position}
use Rattle.bptree_keys.specs.declared.node_id.NodeId.TheVariants as kind
use Rattle.bptree_invariant.specs.Leaves.{pairs_of, IsLeafOf, IsStored}
use Rattle.bptree_invariant.specs.NodeTree.{NodeTree}
use Rattle.bptree_invariant.specs.Path.{Way}
use Rattle.bptree_invariant.specs.Shape.{leaf_pairs, pairs_at, IsSummed}

-- a tree at a node id, with its summaries
pub record IsSubtree {K V A : Type 0} (cmp : K → K → Ordering) (is_summary : A → List K → Type 0) (slots : Slots (Inner K A) (Leaf K V)) (height : ℕ) (id : NodeId) : Type 0 where
  pub stored : IsStored cmp slots height id
  pub summed : IsSummed slots is_summary height id
  pub fits : length (pairs_at slots height id) < 2 ^ 64

-- the list without the member at an index, or the whole list if the index is `None`
abbrev pub without_index : {X : Type 0} → List X → Option ℕ → List X
without_index xs None = xs
without_index xs (Some i) = remove xs i

module _ {Q K V : Type 0} (selects : Q → List K → Option ℕ → Type 0) (query : Q) where
  -- the pair at some allowed index, or `None` if `None` is allowed
  abbrev pub IsSelected : List (K × V) → Option (K × V) → Type 0
  IsSelected pairs outcome = (index : Option ℕ) × IsIndexBelow pairs index × selects query (keys_of pairs) index × (outcome ≡ option_and_then (λ i. slice_get pairs i) index)

  -- the first n pairs from some allowed index on, or nothing if `None` is allowed
  abbrev pub IsPartSelected : List (K × V) → ℕ → List (K × V) → Type 0
  IsPartSelected pairs n found = (index : Option ℕ) × IsIndexBelow pairs index × selects query (keys_of pairs) index × (found ≡ part_at pairs index n)

  -- the position of some allowed index of a tree, or `None` if `None` is allowed
  abbrev pub IsSelectedAt : {A : Type 0} → Slots (Inner K A) (Leaf K V) → ℕ → NodeId → Option Position → Type 0
  IsSelectedAt slots height id None = selects query (keys_of (pairs_at slots height id)) None
  IsSelectedAt slots height id (Some at) = (stored : IsLeafOf slots height id at.leaf) × (at.slot < length (leaf_pairs (slots.leaf at.leaf.0))) × selects query (keys_of (pairs_at slots height id)) (Some (length (pairs_of slots stored.before) + at.slot))

  -- the pair at some allowed index was removed from the list and returned, or `None` was returned
  -- if `None` is allowed
  abbrev pub IsTaken : List (K × V) → List (K × V) → Option (K × V) → Type 0
  IsTaken old new outcome = (index : Option ℕ) × IsIndexBelow old index × selects query (keys_of old) index × (outcome ≡ option_and_then (λ i. slice_get old i) index) × (new ≡ without_index old index)

-- a search for the found key that reached a node by a path continues from there to the key's leaf
-- by a longer path
abbrev pub GoesOn : {K V A : Type 0} → (K → K → Ordering) → Slots (Inner K A) (Leaf K V) → ℕ → NodeId → List (InnerNodeId × ℕ × NodeId) → List (InnerNodeId × ℕ × NodeId) → Option Position → Type 0
GoesOn cmp slots height id path longer None = Unit {0}
GoesOn {K} {V} cmp slots height id path longer (Some at) =
    (pair : K × V) → slice_get (leaf_pairs (slots.leaf at.leaf.0)) at.slot ≡ Some pair → (top : ℕ) (root : NodeId) → Way cmp slots pair.0 top root path height id → Way cmp slots pair.0 top root longer 0 (kind.Leaf at.leaf)

-- the result ranks k among these keys, any smaller keys before them and any greater keys behind;
-- the rank represents those before
abbrev pub RanksAmong : {R K : Type 0} → (K → K → Ordering) → (R → K → List K → Type 0) → (K → List K → R → Type 0) → K → R → List K → Result R R → Type 0
RanksAmong {K = K} cmp represents ranks k rank keys outcome =
    (before after : List K) → IsStrictlySortedBy cmp (before ++ (keys ++ after)) → AllBelow cmp k before → AllAbove cmp k after → length (before ++ (keys ++ after)) < 2 ^ 64 → represents rank k before
    → MatchResult outcome (ranks k (before ++ (keys ++ after))) (ranks k (before ++ (keys ++ after)))

-- the position of some allowed index of a whole tree, or `None` if `None` is allowed
abbrev pub IsSelectedIn : {S K V A Q : Type 0} → (S → Slots (Inner K A) (Leaf K V)) → NodeTree S K V A → (Q → List K → Option ℕ → Type 0) → Q → Option Position → Type 0
IsSelectedIn slots tree selects query at = IsSelectedAt selects query (slots tree.store) tree.height tree.root at

-- the result is a rank of k among the keys of a list
abbrev pub RanksKey : {R K V : Type 0} → (K → List K → R → Type 0) → K → List (K × V) → Result R R → Type 0
RanksKey ranks k pairs outcome = MatchResult outcome (ranks k (keys_of pairs)) (ranks k (keys_of pairs))

-- the result is `Ok` if some key of a list equals k, and otherwise `Err`
abbrev pub FoundIfPresent : {R K V : Type 0} → (K → K → Ordering) → List (K × V) → K → Result R R → Type 0
FoundIfPresent cmp pairs k outcome = is_ok outcome ≡ has cmp pairs k

-- the path leads from the root of a tree to the leaf of the position that was found
abbrev pub IsWayTo : {S K V A : Type 0} → (S → Slots (Inner K A) (Leaf K V)) → NodeTree S K V A → (K → K → Ordering) → List (InnerNodeId × ℕ × NodeId) → Option Position → Type 0
IsWayTo slots tree cmp path found = GoesOn cmp (slots tree.store) tree.height tree.root [] path found

-- The states of the descents of many indexes in a tree with counts.
use Rattle.std.specs.Prelude.{◌≡◌, ℕ, ◌+◌, ◌<◌, List, Option, length, map, take, slice_get}
use Rattle.std.specs.Borrow.{Bor}
use Rattle.std.specs.declared.cmp.Ordering.{Ordering}
use Rattle.std.specs.Map.Iter.{deref_pair}
use Rattle.std.specs.Option.{option_map}
use Rattle.bptree_arguments.specs.CountLaws.{CountsKeys, sum_counts}
use Rattle.bptree_arguments.specs.declared.count.Count.{Count}
use Rattle.bptree_batches.specs.Each.{pairs_each}
use Rattle.bptree_search.specs.ByArgument.{IsSubtree}
use Rattle.bptree_keys.specs.declared.node_id.NodeId.{NodeId}
use Rattle.bptree_nodes.specs.Inner.{Inner}
use Rattle.bptree_nodes.specs.Leaf.{Leaf}
use Rattle.bptree_nodes.specs.Slot.{Slots}
use Rattle.bptree_invariant.specs.Shape.{pairs_at}

-- the index is what is left of it plus the counts of the parts before the one that was reached
pub record ArePassed (counts : List Count) (index : ℕ) (way : ℕ × ℕ) : Type 0 where
  pub within : way.0 < length counts
  pub left : way.1 + sum_counts (take way.0 counts) ≡ index

-- the index is in the part that was reached, if that is not the last part
pub record IsChildIndexOf (counts : List Count) (index : ℕ) (way : ℕ × ℕ) : Type 0 where
  pub passed : ArePassed counts index way
  pub ends : way.0 + 1 < length counts → index < sum_counts (take (way.0 + 1) counts)

module _ {K V : Type 0} (slots : Slots (Inner K Count) (Leaf K V)) (height : ℕ) (root : NodeId) where
  -- the pair at an index below the root, or `None` past the last pair
  abbrev pub IsPairAt : ℕ → Option (Bor K × Bor V) → Type 0
  IsPairAt index found = option_map deref_pair found ≡ slice_get (pairs_at slots height root) index

  -- the pair at each index below the root, or `None` past the last pair
  abbrev pub ArePairsAt : List ℕ → List (Option (Bor K × Bor V)) → Type 0
  ArePairsAt indexes found = map (option_map deref_pair) found ≡ pairs_each (pairs_at slots height root) indexes

module _ {K V : Type 0} (cmp : K → K → Ordering) (slots : Slots (Inner K Count) (Leaf K V)) where
  -- the node is the root of a tree of a height, and the pair at the index in that tree is the pair
  -- at an index in the whole tree
  pub record IsSelectWay (top : ℕ) (root : NodeId) (h : ℕ) (index : ℕ) (way : NodeId × ℕ) : Type 0 where
    pub subtree : IsSubtree cmp CountsKeys slots h way.0
    pub leads : slice_get (pairs_at slots h way.0) way.1 ≡ slice_get (pairs_at slots top root) index

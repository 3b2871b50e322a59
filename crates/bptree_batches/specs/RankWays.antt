-- The states of the descents of many keys in a tree with counts.
use Rattle.std.specs.Prelude.{◌≡◌, ℕ, Ok}
use Rattle.std.specs.declared.cmp.Ordering.{Ordering}
use Rattle.std.specs.Map.{keys_of}
use Rattle.bptree_arguments.specs.CountLaws.{Counted, CountsKeys, count_below}
use Rattle.bptree_arguments.specs.declared.count.Count.{Count}
use Rattle.bptree_search.specs.ByArgument.{IsSubtree, RanksAmong}
use Rattle.bptree_keys.specs.declared.node_id.NodeId.{NodeId}
use Rattle.bptree_nodes.specs.Inner.{Inner}
use Rattle.bptree_nodes.specs.Leaf.{Leaf}
use Rattle.bptree_nodes.specs.Slot.{Slots}
use Rattle.bptree_invariant.specs.Shape.{pairs_at}

module _ {K V : Type 0} (cmp : K → K → Ordering) (slots : Slots (Inner K Count) (Leaf K V)) where
  -- if there are `before` keys before a tree, n keys are smaller than k
  abbrev pub RanksBelow : ℕ → NodeId → K → ℕ → ℕ → Type 0
  RanksBelow h id k before n = RanksAmong cmp Counted (λ k keys rank. rank ≡ count_below cmp k keys) k before (keys_of (pairs_at slots h id)) (Ok n)

  -- the node is the root of a tree of a height, and the rank of the key there, with so many keys
  -- before it, is the rank of the key in the whole tree
  pub record IsRankWay (top : ℕ) (root : NodeId) (start : ℕ) (h : ℕ) (k : K) (way : NodeId × ℕ) : Type 0 where
    pub subtree : IsSubtree cmp CountsKeys slots h way.0
    pub leads : (n : ℕ) → RanksBelow h way.0 k way.1 n → RanksBelow top root k start n

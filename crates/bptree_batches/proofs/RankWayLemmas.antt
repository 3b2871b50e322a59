-- Interleaved descents in a tree with counts: each level, and the rank at the end.
use Rattle.std.proofs.Common.{◌≡◌, ℕ, ◌-◌, ◌<◌, List, length, take, refl, subst, Some, Ok, IsSome, slice_get}
use Rattle.std.specs.declared.alloc.AllocError.{AllocError}
use Rattle.std.specs.declared.cmp.Ordering.{Ordering}
use Rattle.std.specs.Cmp.{IsTotalOrder}
use Rattle.std.specs.Map.{keys_of}
use Rattle.bptree_arguments.specs.CountLaws.{Counted, CountsKeys, count_below}
use Rattle.bptree_arguments.specs.Ranks.{Carries}
use Rattle.bptree_arguments.specs.declared.count.Count.{Count}
use Rattle.bptree_search.specs.ByArgument.{IsSubtree}
use Rattle.bptree_search.proofs.Child.{below, child_at}
use Rattle.bptree_search.proofs.Queried.{ranked_below}
use Rattle.bptree_search.proofs.Summed.{ranked_alone}
use Rattle.bptree_keys.specs.Numbers.{leaf_number}
use Rattle.bptree_keys.specs.declared.node_id.InnerNodeId.{InnerNodeId}
use Rattle.bptree_keys.specs.declared.node_id.LeafNodeId.{LeafNodeId}
use Rattle.bptree_keys.specs.declared.node_id.NodeId.{NodeId}
use Rattle.bptree_keys.specs.declared.node_id.NodeId.TheVariants as kind
use Rattle.bptree_nodes.specs.Inner.{Inner, LeadsToChild}
use Rattle.bptree_nodes.specs.Leaf.{Leaf}
use Rattle.bptree_nodes.specs.Slot.{Slots, Present, IsPresent}
use Rattle.bptree_invariant.specs.Shape.{pairs_at}
use Rattle.bptree_batches.specs.RankWays.{IsRankWay, RanksBelow}

module _ {K V : Type 0} {cmp : K → K → Ordering} (total : IsTotalOrder cmp) (slots : Slots (Inner K Count) (Leaf K V)) where
  -- one level of a descent
  pub rank_to_child : (h : ℕ) (id : NodeId) (inner : InnerNodeId) (node : Inner K Count) (k : K) (before next : ℕ) (i : ℕ) (child : NodeId) (arguments : List Count) → id ≡ kind.Inner inner → IsSubtree cmp CountsKeys slots h id
      → slots.inner inner.0 ≡ Present node → LeadsToChild cmp k node.keys i → i < length node.children → slice_get node.children i ≡ Some child → arguments ≡ node.arguments
      → Carries CountsKeys cmp (take i arguments) Counted before k next → IsRankWay cmp slots h id before (h - 1) k (child, next)
  rank_to_child h id inner node k before next i child arguments is s e leads within read are carries =
      let there = child_at total CountsKeys slots h id inner node s is e i child within read in
      record {
        subtree = below total CountsKeys slots h id inner node i child there;
        leads = λ n ranked. ranked_below total CountsKeys slots k id inner node i child {E = AllocError} Counted (λ k keys rank. rank ≡ count_below cmp k keys) before next arguments (Ok (Ok n)) h there leads are carries ranked;
      }

  -- a descent that continues another one
  pub rank_on : (top : ℕ) (root : NodeId) (start h m : ℕ) (k : K) (way next : NodeId × ℕ) → IsRankWay cmp slots top root start h k way → IsRankWay cmp slots h way.0 way.1 m k next → IsRankWay cmp slots top root start m k next
  rank_on top root start h m k way next first second = record { subtree = second.subtree; leads = λ n ranked. first.leads n (second.leads n ranked) }

  -- the rank below the root
  pub rank_end : (top : ℕ) (root : NodeId) (k : K) (way : NodeId × ℕ) (n : ℕ) → IsSubtree cmp CountsKeys slots top root → IsRankWay cmp slots top root 0 0 k way → RanksBelow cmp slots 0 way.0 k way.1 n
      → n ≡ count_below cmp k (keys_of (pairs_at slots top root))
  rank_end top root k way n s at ranked =
      ranked_alone total CountsKeys slots Counted (λ k keys rank. rank ≡ count_below cmp k keys) k 0 refl top root s (Ok n) (at.leads n ranked)

  pub bottom_is_leaf : (id : NodeId) → IsSubtree cmp CountsKeys slots 0 id → IsSome (leaf_number id)
  bottom_is_leaf (kind.Leaf id) s = refl
  bottom_is_leaf (kind.Inner id) s = absurd s.stored.tree

  pub bottom_present : (id : NodeId) (leaf : LeafNodeId) → IsSubtree cmp CountsKeys slots 0 id → id ≡ kind.Leaf leaf → IsPresent (slots.leaf leaf.0)
  bottom_present id leaf s is = let there : IsSubtree cmp CountsKeys slots 0 (kind.Leaf leaf) = subst (IsSubtree cmp CountsKeys slots 0) is s in there.stored.tree.0

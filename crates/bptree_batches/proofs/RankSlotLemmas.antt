-- Ranks of keys, computed from their slots in the leaves that their descents reached.
use Rattle.std.proofs.Common.{◌≡◌, ℕ, zero, suc, ◌<◌, List, [], ◌∷◌, length, get_or, map, refl, sym, subst, arith, Result, Ok}
use Rattle.std.specs.declared.alloc.AllocError.{AllocError}
use Rattle.std.specs.declared.cmp.Ordering.{Ordering}
use Rattle.std.specs.Cmp.{IsTotalOrder}
use Rattle.std.specs.List.{AllZip}
use Rattle.std.specs.Map.{keys_of}
use Rattle.bptree_arguments.specs.CountLaws.{Counted, CountsAtSlot, CountsKeys, count_below}
use Rattle.bptree_arguments.specs.declared.count.Count.{Count}
use Rattle.bptree_search.specs.ByArgument.{IsSubtree}
use Rattle.bptree_search.proofs.Queried.{ranked_here}
use Rattle.bptree_keys.specs.declared.node_id.NodeId.{NodeId}
use Rattle.bptree_keys.specs.declared.node_id.NodeId.TheVariants as kind
use Rattle.bptree_nodes.specs.Inner.{Inner}
use Rattle.bptree_nodes.specs.Leaf.{Leaf}
use Rattle.bptree_nodes.specs.Slot.{Slot, Slots, Free, Held, Present, IsPresent}
use Rattle.bptree_batches.specs.RankWays.{IsRankWay, RanksBelow}
use Rattle.bptree_batches.specs.Slots.{AreLeavesThere, AreSlotsIn, IsSlotOfLeaf}
use Rattle.bptree_batches.specs.Ways.{IsLeafThere}

node_there : {N : Type 0} (slot : Slot N) → IsPresent slot → (node : N) × (slot ≡ Present node)
node_there Free there = absurd there
node_there Held there = absurd there
node_there (Present node) there = (node, refl)

nodes_get : (n : ℕ) (ways : List (NodeId × ℕ)) (way : NodeId × ℕ) (id : NodeId) → n < length ways → get_or (map (λ (w : NodeId × ℕ). w.0) ways) n id ≡ (get_or ways n way).0
nodes_get n [] way id within = absurd (omega arith)
nodes_get zero (w ∷ ways) way id within = refl
nodes_get (suc n) (w ∷ ways) way id within = nodes_get n ways way id (omega arith)

module _ {K V : Type 0} {cmp : K → K → Ordering} (total : IsTotalOrder cmp) (slots : Slots (Inner K Count) (Leaf K V)) where
  leaf_below : (id : NodeId) → IsSubtree cmp CountsKeys slots 0 id → IsLeafThere slots id
  leaf_below (kind.Leaf id) s = s.stored.tree.0
  leaf_below (kind.Inner id) s = absurd s.stored.tree

  -- the nodes that the descents reached are leaves
  pub ways_end : (top : ℕ) (root : NodeId) (keys : List K) (ways : List (NodeId × ℕ)) → AllZip (IsRankWay cmp slots top root 0 0) keys ways → AreLeavesThere slots (map (λ (w : NodeId × ℕ). w.0) ways)
  ways_end top root [] [] all = tt
  ways_end top root [] (w ∷ ways) all = absurd all
  ways_end top root (k ∷ keys) [] all = absurd all
  ways_end top root (k ∷ keys) (w ∷ ways) all = (leaf_below w.0 all.0.subtree, ways_end top root keys ways all.1)

  -- the rank that is computed from the slot of a key in its leaf
  pub rank_at_slot : (k : K) (id : NodeId) (before : ℕ) (slot : Result ℕ ℕ) (n : ℕ) → IsSubtree cmp CountsKeys slots 0 id → IsSlotOfLeaf cmp slots id k slot → ((keys : List K) → CountsAtSlot cmp k before keys slot (Ok n))
      → RanksBelow cmp slots 0 id k before n
  rank_at_slot k (kind.Inner id) before slot n s found counts = absurd s.stored.tree
  rank_at_slot k (kind.Leaf id) before slot n s found counts =
      let there = node_there (slots.leaf id.0) s.stored.tree.0 in
      ranked_here total CountsKeys slots k 0 (kind.Leaf id) id there.0 s refl there.1 slot (found id there.0 refl there.1) {E = AllocError} Counted (λ k keys rank. rank ≡ count_below cmp k keys) before (keys_of there.0.pairs) refl (Ok (Ok n))
      (counts (keys_of there.0.pairs))

  slot_at : (n : ℕ) (ids : List NodeId) (keys : List K) (found : List (Result ℕ ℕ)) (id : NodeId) (k : K) (slot : Result ℕ ℕ) → n < length keys → AreSlotsIn cmp slots ids keys found → IsSlotOfLeaf cmp slots (get_or ids n id) (get_or keys n k) (get_or found n slot)
  slot_at n [] [] found id k slot within all = absurd (omega arith)
  slot_at n [] (b ∷ keys) found id k slot within all = absurd all
  slot_at n (a ∷ ids) [] found id k slot within all = absurd (omega arith)
  slot_at n (a ∷ ids) (b ∷ keys) [] id k slot within all = absurd all
  slot_at zero (a ∷ ids) (b ∷ keys) (s ∷ found) id k slot within all = all.0
  slot_at (suc n) (a ∷ ids) (b ∷ keys) (s ∷ found) id k slot within all = slot_at n ids keys found id k slot (omega arith) all.1

  -- the slot at an index, if the leaves are those that the descents reached
  pub slot_of_way : (n : ℕ) (ways : List (NodeId × ℕ)) (ids : List NodeId) (keys : List K) (found : List (Result ℕ ℕ)) (way : NodeId × ℕ) (id : NodeId) (k : K) (slot : Result ℕ ℕ) → n < length ways → n < length keys → ids ≡ map (λ (w : NodeId × ℕ). w.0) ways
      → k ≡ get_or keys n k → AreSlotsIn cmp slots ids keys found → IsSlotOfLeaf cmp slots (get_or ways n way).0 k (get_or found n slot)
  slot_of_way n ways ids keys found way id k slot inside within are is all =
      let here : IsSlotOfLeaf cmp slots (get_or (map (λ (w : NodeId × ℕ). w.0) ways) n id) (get_or keys n k) (get_or found n slot) = subst (λ (l : List NodeId). IsSlotOfLeaf cmp slots (get_or l n id) (get_or keys n k) (get_or found n slot)) are (slot_at n ids keys found id k slot within all) in
      let at_way = subst (λ (i : NodeId). IsSlotOfLeaf cmp slots i (get_or keys n k) (get_or found n slot)) (nodes_get n ways way id inside) here in
      subst (λ (y : K). IsSlotOfLeaf cmp slots (get_or ways n way).0 y (get_or found n slot)) (sym is) at_way

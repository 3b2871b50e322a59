-- Interleaved descents: each level, and what the leaf at the end determines of the whole.
use Rattle.std.proofs.Common.{◌≡◌, ℕ, zero, suc, ◌-◌, ◌<◌, List, length, refl, sym, ◌∙◌, subst, arith, Option, Some, None, IsSome, slice_get}
use Rattle.std.specs.declared.cmp.Ordering.{Ordering}
use Rattle.std.specs.Cmp.{IsTotalOrder}
use Rattle.bptree_keys.specs.Contents.{value}
use Rattle.bptree_keys.specs.Numbers.{inner_number, leaf_number}
use Rattle.bptree_keys.specs.declared.node_id.InnerNodeId.{InnerNodeId}
use Rattle.bptree_keys.specs.declared.node_id.LeafNodeId.{LeafNodeId}
use Rattle.bptree_keys.specs.declared.node_id.NodeId.{NodeId}
use Rattle.bptree_keys.specs.declared.node_id.NodeId.TheVariants as kind
use Rattle.bptree_nodes.specs.Inner.{Inner, LeadsToChild}
use Rattle.bptree_nodes.specs.Leaf.{Leaf}
use Rattle.bptree_nodes.specs.Slot.{Slot, Slots, Free, Held, Present, IsPresent}
use Rattle.bptree_invariant.specs.Leaves.{IsStored}
use Rattle.bptree_invariant.specs.Shape.{pairs_at, root_least, IsWellShaped}
use Rattle.bptree_invariant.proofs.Down.{node_leads, child_is_stored, leaf_for_node, leaf_for_leaf}
use Rattle.bptree_invariant.proofs.Spot.{value_in_leaf, leaf_ascends}
use Rattle.bptree_invariant.proofs.Walk.{tree_ascends}
use Rattle.bptree_batches.specs.Ways.{IsOnWay, IsLeafNodeFor, IsLeafThere, ReadsLeaf}

module _ {K V A : Type 0} {cmp : K → K → Ordering} (total : IsTotalOrder cmp) (slots : Slots (Inner K A) (Leaf K V)) where
  -- a node at a height above 0 is an inner node
  pub inner_there : (h : ℕ) (id : NodeId) → IsStored cmp slots h id → 0 < h → IsSome (inner_number id)
  inner_there zero id s above = absurd (omega arith)
  inner_there (suc h) (kind.Inner id) s above = refl
  inner_there (suc h) (kind.Leaf id) s above = absurd s.tree

  -- one level of a descent
  pub way_to_child : (h : ℕ) (id : NodeId) (inner : InnerNodeId) (node : Inner K A) (k : K) (i : ℕ) (child : NodeId) → id ≡ kind.Inner inner → IsStored cmp slots h id → slots.inner inner.0 ≡ Present node
      → LeadsToChild cmp k node.keys i → i < length node.children → slice_get node.children i ≡ Some child → IsOnWay cmp slots h id (h - 1) k child
  way_to_child h id inner node k i child is s e leads within read =
      let there : IsStored cmp slots h (kind.Inner inner) = rw is at s in
      rw is record {
        stored = child_is_stored total slots h inner node there e i child within read;
        leads = λ leaf for'. leaf_for_node total slots h inner node k i child leaf there e (node_leads total slots h inner node there e k i leads) within read for';
      }

  -- a descent that continues another one
  pub way_on : (top : ℕ) (root : NodeId) (h m : ℕ) (k : K) (node child : NodeId) → IsOnWay cmp slots top root h k node → IsOnWay cmp slots h node m k child → IsOnWay cmp slots top root m k child
  way_on top root h m k node child first second = record { stored = second.stored; leads = λ leaf for'. first.leads leaf (second.leads leaf for') }

  -- the node at the end of a descent is the leaf for the key
  pub way_end : (top : ℕ) (root : NodeId) (k : K) (node : NodeId) → IsOnWay cmp slots top root 0 k node → IsLeafNodeFor cmp slots top root k node
  way_end top root k (kind.Leaf id) way = way.leads id (leaf_for_leaf total slots 0 id k way.stored)
  way_end top root k (kind.Inner id) way = absurd way.stored.tree

  pub leaf_there : (top : ℕ) (root : NodeId) (k : K) (node : NodeId) → IsLeafNodeFor cmp slots top root k node → IsLeafThere slots node
  leaf_there top root k (kind.Leaf id) for' = for'.stored.present
  leaf_there top root k (kind.Inner id) for' = absurd for'

  present_is : {N : Type 0} (slot : Slot N) → IsPresent slot → (node : N) × (slot ≡ Present node)
  present_is Free there = absurd there
  present_is Held there = absurd there
  present_is (Present node) there = (node, refl)

  -- the value of a key in the leaf for it is its value in the whole
  pub value_from_leaf : (is_summary : A → List K → Type 0) (top : ℕ) (root : NodeId) (k : K) (id : NodeId) (found : Option V) → IsWellShaped cmp is_summary slots top root
      → IsLeafNodeFor cmp slots top root k id → ReadsLeaf cmp slots id k found → found ≡ value cmp (pairs_at slots top root) k
  value_from_leaf is_summary top root k (kind.Inner id) found shape for' reads = absurd for'
  value_from_leaf is_summary top root k (kind.Leaf id) found shape for' reads =
      let there = present_is (slots.leaf id.0) for'.stored.present in
      let ascending = tree_ascends total slots (root_least top) top root None None shape.tree in
      reads id there.0 refl there.1 (leaf_ascends total slots top root id there.0 for'.stored ascending there.1)
      ∙ sym (value_in_leaf total slots top root k id there.0 for' there.1)

module _ {K V A : Type 0} (slots : Slots (Inner K A) (Leaf K V)) where
  pub leaf_number_there : (id : NodeId) → IsLeafThere slots id → IsSome (leaf_number id)
  leaf_number_there (kind.Leaf id) there = refl
  leaf_number_there (kind.Inner id) there = absurd there

  pub leaf_present : (id : NodeId) (leaf : LeafNodeId) → IsLeafThere slots id → id ≡ kind.Leaf leaf → IsPresent (slots.leaf leaf.0)
  leaf_present id leaf there is = subst (IsLeafThere slots) is there

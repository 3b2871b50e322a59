-- A pair is removed from the first leaf or the last one, which has more pairs than it needs. No
-- other node changes, since every value is a summary of every list.
use Rattle.std.proofs.Common.{◌≡◌, ℕ, zero, suc, ◌-◌, ◌<◌, ◌^◌, List, [], ◌∷◌, ◌++◌, length, refl, sym, ap, subst, ◌∙◌, arith, None, Some, slice_get}
use Rattle.std.specs.Prelude.{Bool, true, false, cond}
use Rattle.std.specs.declared.cmp.Ordering.{Ordering}
use Rattle.std.specs.Cmp.{IsTotalOrder}
use Rattle.std.specs.List.{remove}
use Rattle.std.specs.Map.{keys_of}
use Rattle.bptree_keys.specs.declared.node_id.InnerNodeId.{InnerNodeId}
use Rattle.bptree_keys.specs.declared.node_id.LeafNodeId.{LeafNodeId}
use Rattle.bptree_keys.specs.declared.node_id.NodeId.{NodeId}
use Rattle.bptree_keys.specs.declared.node_id.NodeId.TheVariants as kind
use Rattle.bptree_nodes.specs.Inner.{Inner}
use Rattle.bptree_nodes.specs.Leaf.{Leaf}
use Rattle.bptree_nodes.specs.LeafResults.{HasEqualAt}
use Rattle.bptree_nodes.specs.Slot.{Slot, Slots, Present, UpdatesLeaf}
use Rattle.bptree_invariant.specs.Leaves.{IsEndLeaf, IsLeafOf}
use Rattle.bptree_invariant.specs.Path.{Way}
use Rattle.bptree_invariant.specs.Shape.{leaf_next, leaf_pairs, leaf_prev, pairs_at, root_least, AreLinked, IsTree, IsWellShaped}
use Rattle.bptree_invariant.proofs.Ends.{end_pair}
use Rattle.bptree_invariant.proofs.Hinted.{linked_next, linked_prev, none_first, none_last, present_is_leaf_of}
use Rattle.bptree_invariant.proofs.Remembered.{way_hinted}
use Rattle.bptree_invariant.proofs.Walk.{tree_ascends}
use Rattle.bptree_propagation.proofs.AnySummary.{risen_untouched}
use Rattle.bptree_rebalancing.specs.Trim.{IsLoose}
use Rattle.bptree_search.proofs.Beside.{holds_equal}
use Rattle.bptree_removal.proofs.Deleted.{alike, deleted_at}
use Rattle.bptree_removal.proofs.TakenOut as out
use Rattle.bptree_removal.specs.Removal.{IsSpareEnd, IsTakenAt, IsThere, LeavesTree}

module _ {K V A : Type 0} {cmp : K → K → Ordering} (total : IsTotalOrder cmp) (is_summary : A → List K → Type 0) (old : Slots (Inner K A) (Leaf K V)) (h : ℕ) (root : NodeId) (shape : IsWellShaped cmp is_summary old h root) (leaf : LeafNodeId) (node : Leaf K V) (here : old.leaf leaf.0 ≡ Present node) where
  in' : IsLeafOf old h root leaf
  in' = present_is_leaf_of total is_summary old h root shape leaf node here

  links : AreLinked old None (in'.before ++ leaf ∷ in'.after) None
  links = subst (λ ids. AreLinked old None ids None) in'.leaves shape.linked

  -- a present leaf with no leaf beside it is at an end of the tree
  at_end : (is_last : Bool) → cond is_last (leaf_next (old.leaf leaf.0)) (leaf_prev (old.leaf leaf.0)) ≡ None → IsEndLeaf old is_last h root leaf
  at_end true none = record { stored = in'; last = none_first in'.after (sym (linked_next old None in'.before leaf in'.after None links) ∙ none) }
  at_end false none = record { stored = in'; first = none_last in'.before (sym (linked_prev old None in'.before leaf in'.after None links) ∙ none) }

  module _ (few : length (pairs_at old h root) < 2 ^ 64) (slot : ℕ) (pair : K × V) (read : slice_get (leaf_pairs (old.leaf leaf.0)) slot ≡ Some pair) where
    read_here : slice_get node.pairs slot ≡ Some pair
    read_here = rw here at read

    found : HasEqualAt cmp node.pairs pair.0 slot
    found = rw read_here (alike total pair.0)

    way : (path : List (InnerNodeId × ℕ × NodeId)) × Way cmp old pair.0 h root path 0 (kind.Leaf leaf)
    way = way_hinted total old pair.0 is_summary h root shape leaf (holds_equal total is_summary old h root shape pair.0 leaf node slot here found)

    abbrev there : IsThere cmp is_summary old way.0 leaf slot pair.0
    there = record { top = h; root = root; shape = shape; few = few; way = way.1; found = subst (λ (s : Slot (Leaf K V)). HasEqualAt cmp (leaf_pairs s) pair.0 slot) (sym here) found }

    module _ (any : (a : A) (keys : List K) → is_summary a keys) (spare : 16 < length (leaf_pairs (old.leaf leaf.0))) (mid : Slots (Inner K A) (Leaf K V))
        (takes : (was : Leaf K V) → old.leaf leaf.0 ≡ Present was → UpdatesLeaf old mid leaf.0 (Present (record was { pairs = remove was.pairs slot }))) (a : A) where
      taken : LeavesTree cmp is_summary old mid h root leaf slot pair.0 pair a
      taken =
          out.leaves_in_place total is_summary old way.0 leaf slot pair.0 there pair read mid takes (λ some. spare) a (λ some up. any a _) (λ none. any a []) mid a
          (risen_untouched total is_summary any mid way.0 a (out.propagates_in_place total is_summary old way.0 leaf slot pair.0 there pair read mid takes (λ some. spare) a (λ some up. any a _) (λ none. any a [])))

      -- the root has as many keys as before
      firm : (m : ℕ) (id : NodeId) → IsTree cmp old (root_least m) m id None None → IsTree cmp mid 0 m id None None → IsTree cmp mid (root_least m) m id None None
      firm zero (kind.Leaf id) was now = now
      firm zero (kind.Inner id) was now = absurd now
      firm (suc m) (kind.Leaf id) was now = absurd now
      firm (suc m) (kind.Inner id) was now = (now.0, now.1, rw (takes node here).inner was.2, now.3)

      shape_then : IsWellShaped cmp is_summary mid h root
      shape_then = record {
        tree = firm h root shape.tree taken.loose.nodes.tree;
        leaves = taken.loose.nodes.leaves;
        inners = taken.loose.nodes.inners;
        no_leaf_held = taken.loose.nodes.none_held.leaves;
        no_inner_held = taken.loose.nodes.none_held.inners;
        summed = taken.loose.nodes.summed;
        linked = taken.loose.linked;
      }

      -- the pair was removed at its index
      spared_at : (index : ℕ) → slice_get (pairs_at old h root) index ≡ Some pair → IsTakenAt cmp is_summary old mid h root index pair root h a
      spared_at index was = record {
        was = was;
        shape = shape_then;
        pairs = taken.pairs ∙ sym (deleted_at total (pairs_at old h root) index pair (tree_ascends total old (root_least h) h root None None shape.tree) was);
        reported = any a _;
      }

    -- the pair at the end was removed
    pub spared_end : (is_last : Bool) → IsSpareEnd is_summary old is_last leaf → slot ≡ cond is_last (length node.pairs - 1) 0 → (mid : Slots (Inner K A) (Leaf K V)) → ((was : Leaf K V) → old.leaf leaf.0 ≡ Present was → UpdatesLeaf old mid leaf.0 (Present (record was { pairs = remove was.pairs slot })))
        → (a : A) → IsTakenAt cmp is_summary old mid h root (cond is_last (length (pairs_at old h root) - 1) 0) pair root h a
    spared_end is_last spare stored mid takes a =
        spared_at spare.any spare.spare mid takes a (cond is_last (length (pairs_at old h root) - 1) 0)
        (sym (end_pair cmp old h root shape.tree leaf node here is_last (at_end is_last spare.none)) ∙ rw (← stored) read_here)

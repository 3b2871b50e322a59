-- A pair is removed from the leaf at the end of a path.
use Rattle.std.proofs.Common.{◌≡◌, ℕ, ◌+◌, ◌≤◌, List, length, refl, sym, ap, subst, arith, Some, slice_get}
use Rattle.std.specs.declared.cmp.Ordering.{Ordering}
use Rattle.std.specs.Cmp.{IsTotalOrder}
use Rattle.std.specs.List.{remove}
use Rattle.std.proofs.lemmas.List.Edits.{length-remove}
use Rattle.bptree_keys.specs.Contents.{IsAscending, del}
use Rattle.bptree_keys.proofs.Found.{hit_at}
use Rattle.bptree_keys.proofs.Parted.{del_hit}
use Rattle.bptree_keys.proofs.Updates.{length_del}
use Rattle.bptree_nodes.specs.Inner.{Inner}
use Rattle.bptree_nodes.specs.Leaf.{Leaf}
use Rattle.bptree_nodes.specs.LeafResults.{HasEqualAt}
use Rattle.bptree_nodes.specs.Slot.{Slot, Slots, Present, IsPresent, UpdatesLeaf}
use Rattle.bptree_keys.specs.declared.node_id.InnerNodeId.{InnerNodeId}
use Rattle.bptree_keys.specs.declared.node_id.LeafNodeId.{LeafNodeId}
use Rattle.bptree_keys.specs.declared.node_id.NodeId.{NodeId}
use Rattle.bptree_keys.specs.declared.node_id.NodeId.TheVariants as kind
use Rattle.bptree_propagation.specs.Climb.{Climb, Propagated, StaysFew}
use Rattle.bptree_invariant.specs.Edit.{Stays, Edits}
use Rattle.bptree_invariant.specs.Outcome.{Done}
use Rattle.bptree_invariant.specs.Shape.{leaf_pairs, pairs_at}
use Rattle.bptree_removal.specs.Removal.{IsThere, LeavesTree}
use Rattle.bptree_propagation.proofs.Climbing.{none_are_held}
use Rattle.bptree_propagation.proofs.LeafClimb.{none_held, leaf_stored, leaf_ascends, leaf_fits, climb_from}
use Rattle.bptree_rebalancing.proofs.Loose.{loose_of}
use Rattle.bptree_removal.proofs.RemovedLeaf.{del_is_local, leaf_removed}
use Rattle.bptree_propagation.proofs.Rooted.{whole_done}
use Rattle.bptree_invariant.proofs.ListReads.{read_below}

module _ {K V A : Type 0} {cmp : K → K → Ordering} (total : IsTotalOrder cmp) (is_summary : A → List K → Type 0) (old : Slots (Inner K A) (Leaf K V)) (path : List (InnerNodeId × ℕ × NodeId)) (leaf : LeafNodeId) (slot : ℕ) (k : K)
    (there : IsThere cmp is_summary old path leaf slot k) where
  pub leaf_there : IsPresent (old.leaf leaf.0)
  leaf_there = leaf_stored is_summary old path leaf k there.top there.root there.shape there.way

  module _ (node : Leaf K V) (here : old.leaf leaf.0 ≡ Present node) (pair : K × V) (read : slice_get node.pairs slot ≡ Some pair) where
    pub sorted_here : IsAscending cmp node.pairs
    sorted_here = leaf_ascends is_summary old path leaf k there.top there.root there.shape there.way node here

    pub most_here : length node.pairs ≤ 64
    most_here = leaf_fits is_summary old path leaf k there.top there.root there.shape there.way node here

    pub is_del : remove node.pairs slot ≡ del cmp node.pairs k
    is_del =
        let hit = hit_at cmp total node.pairs sorted_here k slot pair (subst (λ (s : Slot (Leaf K V)). HasEqualAt cmp (leaf_pairs s) k slot) here there.found) in
        sym (del_hit cmp node.pairs _ _ _ k hit.1)

    pub one_less : length (remove node.pairs slot) + 1 ≡ length node.pairs
    one_less = omega (arith, length-remove node.pairs slot (read_below node.pairs slot pair read))

    module _ (mid : Slots (Inner K A) (Leaf K V)) (takes : UpdatesLeaf old mid leaf.0 (Present (record node { pairs = remove node.pairs slot }))) (kept : ℕ) (left : kept ≤ length (remove node.pairs slot)) where
      pub edits_taken : Edits cmp is_summary (λ l. del cmp l k) kept old mid 0 (kind.Leaf leaf) k leaf Stays Done
      edits_taken =
          leaf_removed total is_summary old mid leaf k node here kept (omega (arith, left, ap length is_del)) (omega (arith, ap length is_del, one_less, most_here)) (rw is_del at takes)

      pub few_taken : StaysFew cmp (λ (l : List (K × V)). del cmp l k) (length (pairs_at old there.top there.root))
      few_taken l sorted short = omega (arith, there.few, length_del cmp total l sorted k)

      abbrev pub climb_taken : Climb cmp is_summary mid path Done
      climb_taken = climb_from is_summary old path leaf k there.top there.root there.shape there.way (λ l. del cmp l k) kept few_taken (del_is_local cmp k) edits_taken takes.inner (none_held old mid leaf.0 _ takes there.shape.no_leaf_held)

      pub leaves_taken : (new : Slots (Inner K A) (Leaf K V)) (top : A) → Propagated climb_taken new top → LeavesTree cmp is_summary old new there.top there.root leaf slot k pair top
      leaves_taken new top r = record {
        pair_was = rw here read;
        loose = loose_of cmp is_summary new there.top there.root (whole_done cmp is_summary (λ l. del cmp l k) old new there.top there.root k leaf there.shape (none_are_held r.free (λ n. (refl, refl))) r.edits);
        pairs = r.edits.pairs;
        reported = r.reported;
      }

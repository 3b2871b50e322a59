-- The pair at an allowed index is removed from a whole tree.
use Rattle.std.proofs.Common.{◌≡◌, ℕ, ◌+◌, ◌<◌, ◌^◌, List, [], length, ap, sym, subst, ◌∙◌, Option, Some, slice_get}
use Rattle.std.specs.declared.cmp.Ordering.{Ordering}
use Rattle.std.specs.Cmp.{IsTotalOrder}
use Rattle.std.specs.Map.{keys_of}
use Rattle.std.specs.declared.cmp.Ordering.TheVariants.{Equal}
use Rattle.bptree_keys.specs.Contents.{del}
use Rattle.bptree_nodes.specs.Inner.{Inner}
use Rattle.bptree_nodes.specs.Leaf.{Leaf}
use Rattle.bptree_nodes.specs.Slot.{Slots}
use Rattle.bptree_keys.specs.declared.node_id.InnerNodeId.{InnerNodeId}
use Rattle.bptree_keys.specs.declared.node_id.LeafNodeId.{LeafNodeId}
use Rattle.bptree_keys.specs.declared.node_id.NodeId.{NodeId}
use Rattle.bptree_keys.specs.declared.node_id.Position.{Position}
use Rattle.bptree_search.specs.ByArgument.{IsSelectedAt, GoesOn}
use Rattle.bptree_invariant.specs.Leaves.{pairs_of}
use Rattle.bptree_invariant.specs.Shape.{leaf_pairs, pairs_at, IsWellShaped}
use Rattle.bptree_removal.specs.Removal.{IsEntryAt, LeftAt}
use Rattle.bptree_removal.proofs.EndPaths.{entry_there, left_there, pair_there}
use Rattle.bptree_search.proofs.Selected.{index_read}

module _ {K V A Q : Type 0} {cmp : K → K → Ordering} (total : IsTotalOrder cmp) (is_summary : A → List K → Type 0) (selects : Q → List K → Option ℕ → Type 0) (query : Q) (slots : Slots (Inner K A) (Leaf K V)) (h : ℕ) (root : NodeId)
    (shape : IsWellShaped cmp is_summary slots h root) (few : length (pairs_at slots h root) < 2 ^ 64) (outcome : Option Position) (selected : IsSelectedAt selects query slots h root outcome) (leaf : LeafNodeId) (slot : ℕ) (is : outcome ≡ Some (record { leaf = leaf; slot = slot }))
    (path longer : List (InnerNodeId × ℕ × NodeId)) (none : path ≡ []) (on : GoesOn cmp slots h root path longer outcome) where
  selected_here : IsSelectedAt selects query slots h root (Some (record { leaf = leaf; slot = slot }))
  selected_here = subst (IsSelectedAt selects query slots h root) is selected

  goes_here : GoesOn cmp slots h root path longer (Some (record { leaf = leaf; slot = slot }))
  goes_here = subst (GoesOn cmp slots h root path longer) is on

  -- the key that was found is stored at the end of the path
  pub found_key : (k : K) × IsEntryAt cmp is_summary slots h root longer leaf slot k
  found_key = ((pair_there total is_summary slots h root shape few leaf slot selected_here.1 path longer none goes_here).0.0, entry_there total is_summary slots h root shape few leaf slot selected_here.1 path longer none goes_here)

  left_whole : (new : List (K × V)) (pair : K × V) → slice_get (leaf_pairs (slots.leaf leaf.0)) slot ≡ Some pair → cmp pair.0 found_key.0 ≡ Equal → new ≡ del cmp (pairs_at slots h root) found_key.0
      → (index : ℕ) × selects query (keys_of (pairs_at slots h root)) (Some index) × LeftAt (pairs_at slots h root) new index pair
  unfolding found_key
  left_whole new pair was equal is =
      let index = length (pairs_of slots selected_here.0.before) + slot in
      let there = pair_there total is_summary slots h root shape few leaf slot selected_here.1 path longer none goes_here in
      (index, selected_here.2, left_there total is_summary slots h root shape few leaf slot selected_here.1 path longer none goes_here pair new index (there.1 ∙ sym (index_read slots h root leaf selected_here.0 slot there.0 there.1)) was equal is)

  -- the pair of the key was removed from the whole tree
  pub withdrawn : (old new : List (K × V)) (pair : K × V) → old ≡ pairs_at slots h root → slice_get (leaf_pairs (slots.leaf leaf.0)) slot ≡ Some pair → cmp pair.0 found_key.0 ≡ Equal → new ≡ del cmp old found_key.0
      → (index : ℕ) × selects query (keys_of old) (Some index) × LeftAt old new index pair
  withdrawn old new pair same was equal is =
      subst (λ l. (index : ℕ) × selects query (keys_of l) (Some index) × LeftAt l new index pair) (sym same) (left_whole new pair was equal (is ∙ ap (λ l. del cmp l found_key.0) same))

-- The leaves of a whole tree.
use Rattle.std.proofs.Common.{◌≡◌, ◌∙◌, ◌<◌, ◌≤◌, ℕ, sym, ap, subst, List, ◌++◌, length, map, take, drop}
use Rattle.std.specs.declared.cmp.Ordering.{Ordering}
use Rattle.std.specs.List.{AllByRecursion}
use Rattle.bptree_bulk_load.specs.Rooms.{id_count, pairs_under, IsFilledAt, IsPresentAt}
use Rattle.bptree_bulk.specs.Positions.{AreLast}
use Rattle.bptree_bulk.proofs.Filled.{filled_leaves, least_leaves, present_leaves}
use Rattle.bptree_bulk.proofs.Placed.{all_pairs, is_at, once, IsAt}
use Rattle.bptree_bulk.proofs.Sides.{all_dropped, split_at}
use Rattle.bptree_keys.specs.declared.node_id.LeafNodeId.{LeafNodeId}
use Rattle.bptree_nodes.specs.Inner.{Inner}
use Rattle.bptree_nodes.specs.Leaf.{Leaf}
use Rattle.bptree_nodes.specs.Slot.{Slots}
use Rattle.bptree_ranges.specs.Ranges.{ahead}
use Rattle.bptree_invariant.specs.Leaves.{pairs_of, IsLeafOf}
use Rattle.bptree_invariant.specs.NodeTree.{IsWhole, NodeTree}
use Rattle.bptree_invariant.specs.Shape.{leaves_at}

module _ {S K V A : Type 0} {cmp : K → K → Ordering} {is_summary : A → List K → Type 0} {slots : S → Slots (Inner K A) (Leaf K V)} {tree : NodeTree S K V A} (whole : IsWhole cmp is_summary slots tree) {ids : List LeafNodeId} (are : ids ≡ leaves_at (slots tree.store) tree.height tree.root) where
  pub own_present : AllByRecursion (IsPresentAt (slots tree.store)) ids
  own_present = present_leaves cmp (slots tree.store) is_summary tree.height tree.root whole.shape ids are

  pub own_least : 1 < length ids → AllByRecursion (λ (id : LeafNodeId). 16 ≤ length (pairs_under (slots tree.store) id)) ids
  own_least = least_leaves cmp (slots tree.store) is_summary tree.height tree.root whole.shape ids are

  pub own_filled : 1 < length ids → AllByRecursion (IsFilledAt cmp (slots tree.store)) ids
  own_filled = filled_leaves cmp (slots tree.store) is_summary tree.height tree.root whole.shape ids are

  pub own_once : (n : ℕ) → id_count ids n ≤ 1
  own_once = once is_summary (slots tree.store) tree.height tree.root whole.shape ids are

  pub own_pairs : pairs_of (slots tree.store) ids ≡ tree.contents
  own_pairs = all_pairs is_summary (slots tree.store) tree.height tree.root whole.shape ids are ∙ sym whole.contents

  pub own_at : {leaf : LeafNodeId} {i : ℕ} → IsLeafOf (slots tree.store) tree.height tree.root leaf → i ≡ length (ahead leaf.0 ids) → IsAt (slots tree.store) tree.height tree.root ids leaf i
  own_at {leaf} {i} stored at = is_at is_summary (slots tree.store) tree.height tree.root whole.shape ids are leaf stored i at

  -- the leaves from an index on
  module _ (from : ℕ) {rest : List LeafNodeId} (is : rest ≡ drop from ids) where
    pub rest_present : AllByRecursion (IsPresentAt (slots tree.store)) rest
    rest_present = subst (AllByRecursion (IsPresentAt (slots tree.store))) (sym is) (all_dropped (IsPresentAt (slots tree.store)) from ids own_present)

    pub rest_last : AreLast slots tree rest
    rest_last =
        let first = pairs_of (slots tree.store) (take from ids) in
        (first, sym own_pairs ∙ (split_at (slots tree.store) ids from ∙ ap (λ xs. first ++ pairs_of (slots tree.store) xs) (sym is)))

-- properties of a tree's leaves hold of an equal store and equal leaf ids
module _ {S K V A : Type 0} (slots : S → Slots (Inner K A) (Leaf K V)) {store read : S} (same : read ≡ store) {ids found : List LeafNodeId} (are : found ≡ ids) where
  pub all_read : (P : Slots (Inner K A) (Leaf K V) → LeafNodeId → Type 0) → AllByRecursion (P (slots store)) ids → AllByRecursion (P (slots read)) found
  all_read P all = subst (λ s. AllByRecursion (P (slots s)) found) (sym same) (subst (AllByRecursion (P (slots store))) (sym are) all)

  -- the pairs of the leaves come behind others
  pub pairs_read : (parts none some : List (List (K × V))) → none ≡ some → parts ≡ none ++ map (pairs_under (slots read)) found → parts ≡ some ++ map (pairs_under (slots store)) ids
  pairs_read parts none some before is =
      is
      ∙ (ap (λ l. l ++ map (pairs_under (slots read)) found) before
      ∙ ap (λ l. some ++ l) (ap (λ s. map (pairs_under (slots s)) found) same ∙ ap (map (pairs_under (slots store))) are))

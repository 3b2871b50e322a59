-- The leaves that are planned for one side of a cut are all the leaves of a tree.
use Rattle.std.proofs.Common.{◌≡◌, ◌-◌, ◌<◌, ◌^◌, ℕ, sym, ap, subst, List, ◌++◌, length, map, take, drop, arith}
use Rattle.std.proofs.lemmas.List.{take_rest}
use Rattle.std.specs.Cmp.{IsTotalOrder}
use Rattle.std.specs.declared.cmp.Ordering.{Ordering}
use Rattle.bptree_bulk_load.specs.Plans.{Plans, PlansAll}
use Rattle.bptree_bulk_load.specs.Rooms.{pairs_under}
use Rattle.bptree_bulk_load.specs.declared.plan.Plan.{Plan}
use Rattle.bptree_bulk.specs.Cut.{from_cut, lower_parts, pieces, upper_parts, IsCut}
use Rattle.bptree_bulk.specs.declared.cut.Cut.{Cut}
use Rattle.bptree_bulk.proofs.OwnLeaves.{own_least, own_pairs}
use Rattle.bptree_bulk.proofs.Sides.{lower_planned, upper_planned}
use Rattle.bptree_keys.specs.Contents.{IsAscending}
use Rattle.bptree_keys.specs.Ranges.{part}
use Rattle.bptree_keys.specs.declared.node_id.LeafNodeId.{LeafNodeId}
use Rattle.bptree_nodes.specs.Inner.{Inner}
use Rattle.bptree_nodes.specs.Leaf.{Leaf}
use Rattle.bptree_nodes.specs.Slot.{Slots}
use Rattle.bptree_invariant.specs.Leaves.{pairs_of}
use Rattle.bptree_invariant.specs.NodeTree.{IsWhole, NodeTree}
use Rattle.bptree_invariant.specs.Shape.{leaves_at}

module _ {S K V A : Type 0} {cmp : K → K → Ordering} {is_summary : A → List K → Type 0} {slots : S → Slots (Inner K A) (Leaf K V)} {tree : NodeTree S K V A} (whole : IsWhole cmp is_summary slots tree) (total : IsTotalOrder cmp) (ascending : IsAscending cmp tree.contents) (few : length tree.contents < 2 ^ 64)
    {ids : List LeafNodeId} (are : ids ≡ leaves_at (slots tree.store) tree.height tree.root) {cut : Cut} (is : IsCut (slots tree.store) ids cut) (plan : Plan S K V A) where
  abbrev slice : ℕ → List LeafNodeId
  slice from = take (length ids - from) (drop from ids)

  abbrev leaves : List LeafNodeId → List (List (K × V))
  leaves = map (pairs_under (slots tree.store))

  up : IsAscending cmp (pairs_of (slots tree.store) ids)
  up = subst (IsAscending cmp) (sym (own_pairs whole are)) ascending

  short : length (pairs_of (slots tree.store) ids) < 2 ^ 64
  short = omega (arith, few, ap length (own_pairs whole are))

  pub lower_plan : Plans cmp is_summary slots plan (leaves (take cut.from ids) ++ pieces cut.below_half (part (pairs_of (slots tree.store) (slice cut.from)) 0 cut.below)) → PlansAll cmp is_summary slots plan (lower_parts (slots tree.store) ids cut)
  lower_plan planned =
      lower_planned (slots tree.store) ids cut is (own_least whole are) total is_summary up short (slots plan.store) plan.ids.items plan.trees.items
      (subst (λ xs. Plans cmp is_summary slots plan (leaves (take cut.from ids) ++ pieces cut.below_half (part (pairs_of (slots tree.store) xs) 0 cut.below))) (take_rest ids cut.from) planned)

  pub upper_plan : Plans cmp is_summary slots plan (pieces cut.above_half (part (pairs_of (slots tree.store) (slice cut.from)) cut.below cut.above) ++ leaves (slice cut.to)) → PlansAll cmp is_summary slots plan (upper_parts (slots tree.store) ids cut)
  upper_plan planned =
      upper_planned (slots tree.store) ids cut is (own_least whole are) total is_summary up short (slots plan.store) plan.ids.items plan.trees.items
      (subst (λ xs. Plans cmp is_summary slots plan (pieces cut.above_half (part (from_cut (slots tree.store) ids cut) cut.below cut.above) ++ leaves xs)) (take_rest ids cut.to)
      (subst (λ xs. Plans cmp is_summary slots plan (pieces cut.above_half (part (pairs_of (slots tree.store) xs) cut.below cut.above) ++ leaves (slice cut.to))) (take_rest ids cut.from) planned))

-- The parts that are planned so far, and an empty leaf for each.
use Rattle.std.proofs.Common.{◌≡◌, ◌-◌, ◌≤◌, List, drop, length}
use Rattle.std.specs.List.{AllByRecursion}
use Rattle.bptree_bulk_load.specs.Plans.{AddsParts}
use Rattle.bptree_bulk.specs.Filling.{AreParts, IsEmptyLeaf}
use Rattle.bptree_bulk.specs.Gap.{kept_of}
use Rattle.bptree_invariant.specs.Leaves.{pairs_of}
use Rattle.bptree_bulk.proofs.around.plan_border.Given as goal

abbrev pub invariant-parts : goal.invariant-parts
invariant-parts g l = record {
  within : l.done ≤ l.fn.gap.count;
  parts : List (List (g.row.S-K.Denot × g.row.S-V.Denot));
  are : AreParts (kept_of l.fn.gap (pairs_of (g.S.NodeStore.slots l.fn.tree.store) l.fn.ids)) parts (drop l.done (kept_of l.fn.gap (pairs_of (g.S.NodeStore.slots l.fn.tree.store) l.fn.ids)));
  planned : AddsParts g.S.K.Ord.cmp g.S.Argument.Argument.is_summary g.S.NodeStore.slots l.fn.plan l.plan parts;
  empty : AllByRecursion IsEmptyLeaf l.rooms.items;
  as_many : length l.rooms.items ≡ length parts;
}

abbrev pub decreases-parts : goal.decreases-parts
decreases-parts g l = l.fn.gap.count - l.done

use Rattle.std.proofs.Common.{◌≡◌, ◌-◌, ◌≤◌, List, length}
use Rattle.std.specs.List.{AllByRecursion}
use Rattle.bptree_bulk.specs.Filling.{IsEmptyLeaf}
use Rattle.bptree_tree.proofs.Builds.{AreInParts}
use Rattle.bptree_tree.proofs.building.rooms_for.Given as goal

abbrev pub invariant-parts : goal.invariant-parts
invariant-parts g l = record {
  within : l.left ≤ l.fn.count;
  empty : AllByRecursion IsEmptyLeaf l.rooms.items;
  parts : (pairs : List (g.row.K.Denot × g.row.V.Denot)) → length pairs ≡ l.fn.count → AreInParts pairs (length pairs - l.left) (length l.rooms.items);
}

abbrev pub decreases-parts : goal.decreases-parts
decreases-parts g l = l.left

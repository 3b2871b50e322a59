use Rattle.std.proofs.Common.{◌≡◌, ◌+◌, List, drop, length}
use Rattle.std.specs.List.{AllByRecursion}
use Rattle.bptree_bulk_load.specs.Rooms.{ArePlanned}
use Rattle.bptree_bulk.specs.Filling.{AreParts, IsEmptyLeaf}
use Rattle.bptree_bulk.specs.Positions.{index_of_position, IsAtPair}
use Rattle.bptree_bulk.proofs.tail.plan_tail.Given as goal

abbrev pub invariant-parts : goal.invariant-parts
invariant-parts g l = record {
  parts : List (List (g.row.S-K.Denot × g.row.S-V.Denot));
  are : AreParts (drop (index_of_position g.S.NodeStore.slots l.fn.tree l.fn.at) l.fn.tree.contents) parts (drop (index_of_position g.S.NodeStore.slots l.fn.tree l.from) l.fn.tree.contents);
  planned : ArePlanned g.S.K.Ord.cmp g.S.Argument.Argument.is_summary (g.S.NodeStore.slots l.plan.store) l.plan.ids.items l.plan.trees.items parts;
  settled : IsAtPair g.S.NodeStore.slots l.fn.tree l.from;
  sum : index_of_position g.S.NodeStore.slots l.fn.tree l.from + l.left ≡ length l.fn.tree.contents;
  empty : AllByRecursion IsEmptyLeaf l.rooms.items;
  as_many : length l.rooms.items ≡ length parts;
}

abbrev pub decreases-parts : goal.decreases-parts
decreases-parts g l = l.left

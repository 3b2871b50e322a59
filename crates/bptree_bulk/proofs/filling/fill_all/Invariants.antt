use Rattle.std.proofs.Common.{◌≡◌, ◌+◌, ◌≤◌, ◌++◌, [], List, length}
use Rattle.std.specs.Prelude.{vec_capacity, vec_len}
use Rattle.std.specs.List.{AllByRecursion}
use Rattle.std.specs.Vec.Iter.{into_iter_items, into_iter_len}
use Rattle.bptree_bulk_load.specs.Rooms.{parts_of}
use Rattle.bptree_bulk.specs.Filling.{AreParts, IsEmptyLeaf}
use Rattle.bptree_bulk.proofs.Tails.{IsPartlyFilled}
use Rattle.bptree_bulk.proofs.filling.fill_all.Given as goal

abbrev pub invariant-rooms : goal.invariant-rooms
invariant-rooms g l = record {
  counted : into_iter_len l.pairs ≡ length (into_iter_items l.pairs);
  empty : AllByRecursion IsEmptyLeaf (into_iter_items l.rooms);
  parts : List (List (g.row.K.Denot × g.row.V.Denot));
  are : AreParts (into_iter_items l.pairs) parts [];
  as_many : length (into_iter_items l.rooms) ≡ length parts;
  room : vec_len l.leaves + length (into_iter_items l.rooms) ≤ vec_capacity l.leaves;
  len : vec_len l.leaves + length (into_iter_items l.rooms) ≡ vec_len l.fn.leaves + length (into_iter_items l.fn.rooms);
  capacity : vec_capacity l.leaves ≡ vec_capacity l.fn.leaves;
  filled : (all : List (List (g.row.K.Denot × g.row.V.Denot))) → AreParts (into_iter_items l.fn.pairs) all [] → IsPartlyFilled (into_iter_items l.pairs) (parts_of l.fn.leaves.items ++ all) (parts_of l.leaves.items);
}

abbrev pub decreases-rooms : goal.decreases-rooms
decreases-rooms g l = length (into_iter_items l.pairs)

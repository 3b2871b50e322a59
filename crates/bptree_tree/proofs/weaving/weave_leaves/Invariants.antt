-- Leaves have the pairs of the first steps, and the list has room for the parts of the others.
use Rattle.std.proofs.Common.{◌+◌, ◌-◌, ◌*◌, ◌++◌, ◌≤◌, [], List, drop, length, take}
use Rattle.std.specs.Prelude.{vec_capacity, vec_len}
use Rattle.std.specs.List.{AllByRecursion}
use Rattle.bptree_bulk_load.specs.Rooms.{parts_of}
use Rattle.bptree_bulk.specs.Filling.{AreParts, IsEmptyLeaf}
use Rattle.bptree_bulk.specs.Weave.{woven, Goes, Weaves}
use Rattle.bptree_bulk.proofs.Tails.{IsPartlyFilled}
use Rattle.bptree_tree.specs.Weaving.{left_of, open_pairs}
use Rattle.bptree_tree.proofs.WeavingLemmas.{IsFull}
use Rattle.bptree_tree.proofs.weaving.weave_leaves.Given as goal

abbrev pub invariant-leaves : goal.invariant-leaves
invariant-leaves g l = record {
  within : l.done ≤ length l.fn.steps;
  goes : Goes g.S.K.Ord.cmp (take l.done l.fn.steps) (left_of l.fn.first) (left_of l.fn.second) (left_of l.first) (left_of l.second);
  rest : Weaves g.S.K.Ord.cmp (drop l.done l.fn.steps) (left_of l.first) (left_of l.second);
  empty : AllByRecursion IsEmptyLeaf l.spare.items;
  capacity : 4 ≤ vec_capacity l.spare;
  parts : List (List (g.row.S-K.Denot × g.row.S-V.Denot));
  are : AreParts (woven (drop l.done l.fn.steps) (left_of l.first) (left_of l.second)) parts [];
  list : vec_len l.leaves + length parts ≤ vec_capacity l.leaves;
  filled : (all : List (List (g.row.S-K.Denot × g.row.S-V.Denot))) → AreParts (woven l.fn.steps (left_of l.fn.first) (left_of l.fn.second)) all [] → IsPartlyFilled (woven (drop l.done l.fn.steps) (left_of l.first) (left_of l.second)) (parts_of l.fn.leaves.items ++ all) (parts_of l.leaves.items);
  full : IsFull (length l.fn.steps - l.done) l.done (vec_len l.leaves);
  room : 128 + (open_pairs l.first l.second + l.done) ≤ 64 * (vec_len l.spare + vec_len l.leaves);
}

abbrev pub decreases-leaves : goal.decreases-leaves
decreases-leaves g l = length l.fn.steps - l.done

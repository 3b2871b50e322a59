-- The pairs of the first steps have moved.
use Rattle.std.proofs.Common.{◌≡◌, ◌-◌, ◌++◌, ◌≤◌, List, drop, length, take}
use Rattle.std.specs.Prelude.{vec_capacity}
use Rattle.std.specs.List.{AllByRecursion}
use Rattle.bptree_bulk.specs.Filling.{IsEmptyLeaf}
use Rattle.bptree_bulk.specs.Weave.{woven, Goes}
use Rattle.bptree_tree.specs.Weaving.{left_of, KeepsRoom}
use Rattle.bptree_tree.proofs.weaving.weave_leaf.Given as goal

abbrev pub invariant-steps : goal.invariant-steps
invariant-steps g l = record {
  within : l.i ≤ length l.fn.steps;
  goes : Goes g.S.K.Ord.cmp (take l.i l.fn.steps) (left_of l.fn.first) (left_of l.fn.second) (left_of l.first) (left_of l.second);
  rest : List (g.row.S-K.Denot × g.row.S-V.Denot) × List (g.row.S-K.Denot × g.row.S-V.Denot);
  leads : Goes g.S.K.Ord.cmp (drop l.i l.fn.steps) (left_of l.first) (left_of l.second) rest.0 rest.1;
  moved : l.leaf.pairs ++ woven (drop l.i l.fn.steps) (left_of l.first) (left_of l.second) ≡ woven l.fn.steps (left_of l.fn.first) (left_of l.fn.second);
  len : length l.leaf.pairs ≡ l.i;
  empty : AllByRecursion IsEmptyLeaf l.spare.items;
  capacity : vec_capacity l.spare ≡ vec_capacity l.fn.spare;
  room : KeepsRoom l.fn.spare l.fn.first l.fn.second l.spare l.first l.second l.i;
}

abbrev pub decreases-steps : goal.decreases-steps
decreases-steps g l = length l.fn.steps - l.i

use Rattle.std.proofs.Common.{◌≡◌, ◌+◌}
use Rattle.bptree_bulk.specs.Positions.{index_of_position, IsAtPair}
use Rattle.bptree_bulk.proofs.tail.advance.Given as goal

abbrev pub invariant-leaves : goal.invariant-leaves
invariant-leaves g l = record {
  settled : IsAtPair g.S.NodeStore.slots l.fn.tree l.at;
  sum : index_of_position g.S.NodeStore.slots l.fn.tree l.at + l.left ≡ index_of_position g.S.NodeStore.slots l.fn.tree l.fn.at + l.fn.count;
}

abbrev pub decreases-leaves : goal.decreases-leaves
decreases-leaves g l = l.left

use Rattle.std.proofs.Common.{◌+◌, ◌≤◌, length}
use Rattle.bptree_keys.specs.Searches.{IsAmong}
use Rattle.bptree_keys.proofs.Steps.{Halves}
use Rattle.bptree_keys.proofs.compares.halved.Given as goal

abbrev pub invariant-halves : goal.invariant-halves
invariant-halves g l = record {
  enough : l.fn.few ≤ l.left;
  within : l.first + l.left ≤ length l.keys;
  among : IsAmong (λ y. g.K.Ord.cmp y l.key) l.keys l.first l.left;
  counted : Halves l.fn.compares l.fn.width l.left l.compares;
}

abbrev pub decreases-halves : goal.decreases-halves
decreases-halves g l = l.left

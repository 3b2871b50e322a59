use Rattle.std.proofs.Common.{◌+◌, min}
use Rattle.bptree_iter.specs.Span.{leaves_of}
use Rattle.bptree_iter.proofs.EndLemmas.{Walked}
use Rattle.bptree_iter.proofs.iterator.end_of_first.Given as goal

abbrev pub invariant-leaves : goal.invariant-leaves
invariant-leaves g l = record {
  walked : Walked (leaves_of (g.S.NodeStore.slots l.fn.store)) l.fn.part.front.leaf l.fn.part.front.slot l.fn.part.back.leaf l.fn.part.back.slot l.fn.part.limit l.at l.passed l.left;
}

abbrev pub decreases-leaves : goal.decreases-leaves
decreases-leaves g l = l.left + min l.passed 1

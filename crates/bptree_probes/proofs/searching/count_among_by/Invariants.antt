use Rattle.std.proofs.Common.{◌+◌, ◌≤◌, ◌<◌, length}
use Rattle.bptree_keys.specs.Searches.{CountsAmong}
use Rattle.bptree_probes.proofs.searching.count_among_by.Given as goal

abbrev pub invariant-halves : goal.invariant-halves
invariant-halves g l = record {
  positive : 0 < l.left;
  within : l.first + l.left ≤ length l.keys + 1;
  among : CountsAmong (λ y. g.K.Ord.cmp y (g.P.Probe.meant l.probe)) l.keys l.first l.left;
}

abbrev pub decreases-halves : goal.decreases-halves
decreases-halves g l = l.left

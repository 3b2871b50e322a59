use Rattle.std.proofs.Common.{◌≡◌, ◌+◌, ◌-◌, ◌≤◌, min}
use Rattle.std.specs.List.{sum}
use Rattle.bptree_unit_tests.proofs.callers.shards.combining.counts_a_page.Given as goal

abbrev pub invariant-loop-part : goal.invariant-loop-part
invariant-loop-part l = record {
  fewer : l.left ≤ l.fn.n;
  page : min l.left (sum l.lengths - l.from) + (l.fn.n - l.left) ≡ min l.fn.n (sum l.fn.lengths - l.fn.index);
}

abbrev pub decreases-loop-part : goal.decreases-loop-part
decreases-loop-part l = l.left

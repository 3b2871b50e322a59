use Rattle.std.proofs.Common.{◌≡◌, ◌+◌, ◌-◌, ◌<◌, ◌≤◌, length}
use Rattle.std.specs.List.{AllWithin}
use Rattle.std.specs.List.Sorted.{IsNonDecreasingBy}
use Rattle.std.specs.Ordering.{ordering_index}
use Rattle.std.specs.declared.cmp.Ordering.TheVariants.{Less}
use Rattle.bptree_keys.specs.Searches.{CountsOne, IsAbove}
use Rattle.bptree_keys.proofs.Steps.{Halves}
use Rattle.bptree_keys.proofs.compares.search_halves.Given as goal

abbrev pub invariant-halves : goal.invariant-halves
invariant-halves g l = record {
  order : l.low ≤ l.high;
  within : l.high ≤ length l.keys;
  below : IsNonDecreasingBy (λ y. ordering_index (g.K.Ord.cmp y l.key)) l.keys → AllWithin (λ y. g.K.Ord.cmp y l.key ≡ Less) l.keys 0 l.low;
  above : IsAbove (λ y. g.K.Ord.cmp y l.key) l.keys l.high;
  counts : 0 < l.fn.end → l.high - l.low < l.fn.end → CountsOne l.fn.compares l.compares;
  counted : Halves l.fn.compares (l.fn.end + 1) (l.high - l.low + 1) l.compares;
}

abbrev pub decreases-halves : goal.decreases-halves
decreases-halves g l = l.high - l.low

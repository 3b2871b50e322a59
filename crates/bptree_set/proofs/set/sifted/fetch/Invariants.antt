use Rattle.std.proofs.Common.{◌≡◌, length}
use Rattle.std.specs.List.Sorted.{IsStrictlySortedBy}
use Rattle.bptree_set.specs.Beside.{keys_fetched}
use Rattle.bptree_set.proofs.set.sifted.fetch.Given as goal

abbrev pub invariant-loop-key : goal.invariant-loop-key
invariant-loop-key g l = IsStrictlySortedBy g.K.Ord.cmp l.keys × (keys_fetched g.K.Ord.cmp l.initial.other l.initial.keys ≡ keys_fetched g.K.Ord.cmp l.initial.other l.keys)

abbrev pub decreases-loop-key : goal.decreases-loop-key
decreases-loop-key g l = length l.keys

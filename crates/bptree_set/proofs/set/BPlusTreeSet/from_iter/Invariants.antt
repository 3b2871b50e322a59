-- The items that came so far are the keys of the pairs.
use Rattle.std.proofs.Common.{◌≡◌}
use Rattle.std.specs.Map.{keys_of}
use Rattle.bptree_set.proofs.set.BPlusTreeSet.from_iter.Given as goal

abbrev pub invariant-loop-k : goal.invariant-loop-k
invariant-loop-k g l = keys_of l.pairs.items ≡ l.yielded

use Rattle.std.proofs.Common.{◌≡◌, length}
use Rattle.std.specs.List.Sorted.{IsStrictlySortedBy}
use Rattle.bptree_set.specs.Beside.{keys_sifted}
use Rattle.bptree_set.proofs.set.sifted.seek.Given as goal

abbrev pub invariant-loop-key : goal.invariant-loop-key
invariant-loop-key g l = IsStrictlySortedBy g.K.Ord.cmp l.keys × (keys_sifted g.K.Ord.cmp g.W.SetOp.keeps l.initial.keys l.initial.other ≡ keys_sifted g.K.Ord.cmp g.W.SetOp.keeps l.keys l.initial.other)

abbrev pub decreases-loop-key : goal.decreases-loop-key
decreases-loop-key g l = length l.keys

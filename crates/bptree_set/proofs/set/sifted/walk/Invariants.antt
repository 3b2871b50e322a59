use Rattle.std.proofs.Common.{◌≡◌, ◌+◌, length}
use Rattle.bptree_set.specs.Beside.{AreSides, keys_sifted}
use Rattle.bptree_set.proofs.set.sifted.walk.Given as goal

abbrev pub invariant-loop-key : goal.invariant-loop-key
invariant-loop-key g l = AreSides g.K.Ord.cmp l.sides × (keys_sifted g.K.Ord.cmp g.W.SetOp.keeps l.initial.sides.0 l.initial.sides.1 ≡ keys_sifted g.K.Ord.cmp g.W.SetOp.keeps l.sides.0 l.sides.1)

abbrev pub decreases-loop-key : goal.decreases-loop-key
decreases-loop-key g l = length l.sides.0 + length l.sides.1

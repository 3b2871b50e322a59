-- The pairs so far have clones of the keys so far.
use Rattle.std.proofs.Common.{take}
use Rattle.std.specs.List.{AllZip}
use Rattle.std.specs.Map.{keys_of}
use Rattle.bptree_set.proofs.set.extending.clones_of.Given as goal

abbrev pub invariant-loop-k : goal.invariant-loop-k
invariant-loop-k g l = AllZip g.K.Clone.is_clone (take l.k-index l.keys) (keys_of l.pairs.items)

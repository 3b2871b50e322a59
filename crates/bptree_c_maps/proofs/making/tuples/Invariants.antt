use Rattle.std.proofs.Common.{◌≡◌, ◌++◌, length, map}
use Rattle.bptree_c_maps.specs.Pairs.{as_tuple}
use Rattle.bptree_c_maps.proofs.making.tuples.Given as goal

abbrev pub invariant-loop-pair : goal.invariant-loop-pair
invariant-loop-pair l = map as_tuple l.fn.given ≡ l.copied.items ++ map as_tuple l.rest

abbrev pub decreases-loop-pair : goal.decreases-loop-pair
decreases-loop-pair l = length l.rest

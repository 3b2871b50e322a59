use Rattle.std.proofs.Common.{◌≡◌, take}
use Rattle.std.specs.List.{sum}
use Rattle.bptree_shard_routing.proofs.combining.len_of_whole.Given as goal

abbrev pub invariant-loop-length : goal.invariant-loop-length
invariant-loop-length l = l.before ≡ sum (take l.length-index l.lengths)

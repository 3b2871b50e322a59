use Rattle.std.proofs.Common.{◌≡◌, length}
use Rattle.std.specs.List.{flat_map, fold}
use Rattle.bptree_set.proofs.comparing.BPlusTreeSetHash.hash.Given as goal

abbrev pub invariant-loop-k : goal.invariant-loop-k
invariant-loop-k g l = fold g.H.Hasher.write l.state (flat_map g.K.Hash.hash_input l.left) ≡ fold g.H.Hasher.write l.initial.state (flat_map g.K.Hash.hash_input l.initial.left)

abbrev pub decreases-loop-k : goal.decreases-loop-k
decreases-loop-k g l = length l.left

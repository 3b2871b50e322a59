use Rattle.std.proofs.Common.{◌≡◌, length}
use Rattle.std.specs.List.{flat_map, fold}
use Rattle.bptree_map.specs.Comparing.{pair_hash_input}
use Rattle.bptree_map.proofs.comparing.BPlusTreeMapHash.hash.Given as goal

abbrev pub invariant-loop-k : goal.invariant-loop-k
invariant-loop-k g l =
    let fed = flat_map (pair_hash_input g.K.Hash.hash_input g.V.Hash.hash_input) in
    fold g.H.Hasher.write l.state (fed l.left) ≡ fold g.H.Hasher.write l.initial.state (fed l.initial.left)

abbrev pub decreases-loop-k : goal.decreases-loop-k
decreases-loop-k g l = length l.left

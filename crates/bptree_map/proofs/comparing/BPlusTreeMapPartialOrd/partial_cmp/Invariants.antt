use Rattle.std.proofs.Common.{◌≡◌, length}
use Rattle.bptree_map.specs.Comparing.{pairs_partial_cmp}
use Rattle.bptree_map.proofs.comparing.BPlusTreeMapPartialOrd.partial_cmp.Given as goal

abbrev pub invariant-loop-pair : goal.invariant-loop-pair
invariant-loop-pair g l = pairs_partial_cmp g.K.PartialOrd.partial_cmp g.V.PartialOrd.partial_cmp l.left l.right ≡ pairs_partial_cmp g.K.PartialOrd.partial_cmp g.V.PartialOrd.partial_cmp l.initial.left l.initial.right

abbrev pub decreases-loop-pair : goal.decreases-loop-pair
decreases-loop-pair g l = length l.left

use Rattle.std.proofs.Common.{◌≡◌, length}
use Rattle.bptree_map.specs.Comparing.{pairs_eq}
use Rattle.bptree_map.proofs.comparing.BPlusTreeMapPartialEq.eq.Given as goal

abbrev pub invariant-loop-pair : goal.invariant-loop-pair
invariant-loop-pair g l = (length l.left ≡ length l.right) × (pairs_eq g.K.PartialEq.eq g.V.PartialEq.eq l.left l.right ≡ pairs_eq g.K.PartialEq.eq g.V.PartialEq.eq l.initial.left l.initial.right)

abbrev pub decreases-loop-pair : goal.decreases-loop-pair
decreases-loop-pair g l = length l.left

use Rattle.std.proofs.Common.{◌↔◌, ◌∷◌, length}
use Rattle.bptree_load_plan.specs.Loading.{IsInLoadOrder}
use Rattle.bptree_load_plan.proofs.loading.in_load_order.Given as goal

abbrev pub invariant-loop-pair : goal.invariant-loop-pair
invariant-loop-pair g l = IsInLoadOrder g.K.Ord.cmp l.fn.pairs ↔ IsInLoadOrder g.K.Ord.cmp (l.last ∷ l.rest)

abbrev pub decreases-loop-pair : goal.decreases-loop-pair
decreases-loop-pair g l = length l.rest

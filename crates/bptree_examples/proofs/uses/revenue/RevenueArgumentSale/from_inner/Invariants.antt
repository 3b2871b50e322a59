use Rattle.std.proofs.Common.{◌≡◌, ◌-◌, ◌^◌, min, take}
use Rattle.std.specs.List.{sum_by}
use Rattle.bptree_examples.proofs.uses.revenue.RevenueArgumentSale.from_inner.Given as goal

abbrev pub invariant-loop-argument : goal.invariant-loop-argument
invariant-loop-argument l = l.total ≡ min (sum_by (λ a. a.0) (take l.argument-index l.arguments)) (2 ^ 64 - 1)

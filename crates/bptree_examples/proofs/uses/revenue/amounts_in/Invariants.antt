use Rattle.std.proofs.Common.{◌≡◌, take}
use Rattle.bptree_examples.specs.Sales.{sum_of_amounts}
use Rattle.bptree_examples.proofs.uses.revenue.amounts_in.Given as goal

abbrev pub invariant-loop-sale : goal.invariant-loop-sale
invariant-loop-sale l = l.total ≡ sum_of_amounts (take l.sale-index l.sales)

use Rattle.std.proofs.Common.{◌≡◌, ◌+◌, take}
use Rattle.std.specs.List.{sum_by}
use Rattle.bptree_arguments.proofs.count.CountSearchArgument.locate_in_inner.Given as goal

abbrev pub invariant-loop-i : goal.invariant-loop-i
invariant-loop-i g l = l.rest + sum_by (λ a. a.0) (take l.i l.arguments) ≡ l.query

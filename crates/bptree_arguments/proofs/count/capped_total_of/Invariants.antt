use Rattle.std.proofs.Common.{◌≡◌, ◌+◌, ◌^◌, ◌<◌, take}
use Rattle.std.specs.List.{sum_by}
use Rattle.bptree_arguments.proofs.count.capped_total_of.Given as goal

-- the sum so far is that of the counts seen, and fits
abbrev pub invariant-loop-argument : goal.invariant-loop-argument
invariant-loop-argument l = (l.total ≡ l.start + sum_by (λ a. a.0) (take l.argument-index l.arguments)) × (l.total < 2 ^ 64)

use Rattle.std.proofs.Common.{◌≡◌, ◌+◌, ◌*◌, ◌^◌, ◌<◌, take}
use Rattle.std.specs.List.{sum_by}
use Rattle.bptree_arguments.proofs.count.total_of.Given as goal

-- if the bits so far are those of small counts, the sum so far is that of the counts seen
abbrev pub invariant-loop-argument : goal.invariant-loop-argument
invariant-loop-argument l = l.bits < 2 ^ 57 → (l.total ≡ l.start + sum_by (λ a. a.0) (take l.argument-index l.arguments)) × (l.total < (l.argument-index + 1) * 2 ^ 57)

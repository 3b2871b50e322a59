use Rattle.std.proofs.Common.{arith}
use Rattle.std.proofs.lemmas.Grind.{common_steps}
use Rattle.std.proofs.lemmas.Nat.{le_or_l, le_or_r}
use Rattle.bptree_arguments.proofs.count.total_of.Goals as goal

-- a bound on the bits, so far and with one more number, is a bound on each number in them
pub loop-argument-preserved : goal.loop-argument-preserved
loop-argument-preserved c = λ small. grind (arith, common_steps, le_or_l, le_or_r)

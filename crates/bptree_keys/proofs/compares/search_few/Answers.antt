use Rattle.std.proofs.Common.{arith}
use Rattle.bptree_keys.proofs.compares.search_few.Goals as goal

pub returns-then-count-ge8-clause-count : goal.returns-then-count-ge8-clause-count
returns-then-count-ge8-clause-count g c = omega (arith, c.search_ends.ensures.count 3 (omega arith))

pub returns-then-count-ge4-clause-count : goal.returns-then-count-ge4-clause-count
returns-then-count-ge4-clause-count g c = omega (arith, c.search_ends-then-count-ge4.ensures.count 2 (omega arith))

pub returns-then-count-ge2-clause-count : goal.returns-then-count-ge2-clause-count
returns-then-count-ge2-clause-count g c = omega (arith, c.search_ends-then-count-ge2.ensures.count 1 (omega arith))

use Rattle.std.proofs.Common.{arith}
use Rattle.std.proofs.lemmas.Iterator.Adapters.{YieldsList-from_vec}
use Rattle.bptree_contract_tests.proofs.GatherLemmas.{gathered_all}
use Rattle.bptree_contract_tests.proofs.callers.sets.gathers.Goals as goal

pub returns : goal.returns
returns g c = gathered_all g.K.Ord.cmp c.args.keys.items _ c.from_iter.ensures (λ it gives. YieldsList-from_vec c.args.keys.items gives.0 (omega (arith, gives.1)))

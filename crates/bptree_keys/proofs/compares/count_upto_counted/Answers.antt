use Rattle.std.proofs.Common.{Ok, Err, arith}
use Rattle.bptree_keys.proofs.Locating.{count_upto_from_locate}
use Rattle.bptree_keys.proofs.compares.count_upto_counted.Goals as goal

pub returns-in-Ok-clause-ascending : goal.returns-in-Ok-clause-ascending
returns-in-Ok-clause-ascending g c = λ s.
    omega (arith, count_upto_from_locate g.K.Ord.cmp g.met.K.Ord.total c.args.keys.now c.args.key.now (Ok c.in-Ok.slot) s (c.in-Ok.ensures.ascending s))

pub returns-in-Err-clause-ascending : goal.returns-in-Err-clause-ascending
returns-in-Err-clause-ascending g c = λ s.
    count_upto_from_locate g.K.Ord.cmp g.met.K.Ord.total c.args.keys.now c.args.key.now (Err c.in-Err.slot) s (c.in-Err.ensures.ascending s)

use Rattle.std.proofs.Common.{Ok, Err, arith}
use Rattle.bptree_arguments.proofs.RankLemmas.{counted_at_slot}
use Rattle.bptree_arguments.proofs.count.CountRankArgument.fold_leaf.Goals as goal

pub returns-in-Ok-clause-ranked : goal.returns-in-Ok-clause-ranked
returns-in-Ok-clause-ranked g c = λ placed before after ascending low high fits stored.
    counted_at_slot g.K.Ord.cmp c.args._k.now c.args.rank c.args._keys.now (Ok c.in-Ok.i) _ (omega arith) (rw c.in-Ok.is at placed) before after low high fits stored

pub returns-in-Err-clause-ranked : goal.returns-in-Err-clause-ranked
returns-in-Err-clause-ranked g c = λ placed before after ascending low high fits stored.
    counted_at_slot g.K.Ord.cmp c.args._k.now c.args.rank c.args._keys.now (Err c.in-Err.i) _ (omega arith) (rw c.in-Err.is at placed) before after low high fits stored

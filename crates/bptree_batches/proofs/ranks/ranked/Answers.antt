use Rattle.std.proofs.Common.{Ok, Err, arith}
use Rattle.bptree_arguments.proofs.RankLemmas.{counted_at_slot}
use Rattle.bptree_batches.proofs.ranks.ranked.Goals as goal

pub returns-in-Ok : goal.returns-in-Ok
returns-in-Ok g c = λ k keys placed before after ascending low high fits stored.
    counted_at_slot g.K.Ord.cmp k c.args.before keys (Ok c.in-Ok.i) _ (omega arith) (rw c.in-Ok.is at placed) before after low high fits stored

pub returns-in-Err : goal.returns-in-Err
returns-in-Err g c = λ k keys placed before after ascending low high fits stored.
    counted_at_slot g.K.Ord.cmp k c.args.before keys (Err c.in-Err.i) _ (omega arith) (rw c.in-Err.is at placed) before after low high fits stored

use Rattle.std.proofs.Common.{refl}
use Rattle.bptree_bulk.specs.Weave.{put_pair}
use Rattle.bptree_map.proofs.MovingLemmas.{put_on}
use Rattle.bptree_tree.proofs.FailureLemmas.{failure_of}
use Rattle.bptree_map.proofs.map.BPlusTreeMap.extend.Goals as goal

pub loop-k-preserved-in-Ok : goal.loop-k-preserved-in-Ok
loop-k-preserved-in-Ok g c = put_on (put_pair g.K.Ord.cmp) c.args.self.now c.loop-k.yielded c.loop-k.self c.insert.new.self (c.in-Some.k, c.in-Some.v) c.loop-k.invariant c.in-Ok.ensures.ok.1

pub loop-k-preserved-in-Ok-2 : goal.loop-k-preserved-in-Ok-2
loop-k-preserved-in-Ok-2 g c = put_on (put_pair g.K.Ord.cmp) c.args.self.now c.loop-k.yielded c.loop-k.self c.insert.new.self (c.in-Some.k, c.in-Some.v) c.loop-k.invariant c.in-Ok.ensures.ok.1

pub returns-in-Err-clause-kind : goal.returns-in-Err-clause-kind
returns-in-Err-clause-kind g c = failure_of g.K.Ord.cmp _ c.loop-k.self c.insert.new.self c.in-Some.k c.in-Some.v _ c.in-Err.refusal refl c.in-Err.ensures.err c.in-Err.ensures.present c.in-Err.ensures.full

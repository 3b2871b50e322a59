use Rattle.std.proofs.Common.{◌∙◌, refl}
use Rattle.bptree_map.specs.Keys.{with_key}
use Rattle.bptree_map.proofs.KeyLemmas.{key_failure_of}
use Rattle.bptree_map.proofs.MovingLemmas.{put_on}
use Rattle.bptree_set.proofs.set.BPlusTreeSet.extend.Goals as goal

pub loop-k-preserved : goal.loop-k-preserved
loop-k-preserved g c = put_on (with_key g.K.Ord.cmp) c.args.self.now c.loop-k.yielded c.loop-k.self c.insert.new.self c.in-Some.k c.loop-k.invariant c.in-Ok.ensures.ok.1

pub returns-in-Err-clause-err : goal.returns-in-Err-clause-err
returns-in-Err-clause-err g c = (
  c.into_iter-k-iterator.result,
  c.into_iter-k-iterator.ensures.into_iter_gives,
  (c.loop-k.yielded, c.next.new.self, (c.loop-k.k-iterator, c.loop-k.yielded_by, rw c.in-Err.ensures.err.0 c.in-Some.ensures.steps), c.in-Err.ensures.err.1 ∙ c.loop-k.invariant),
)

pub returns-in-Err-clause-kind : goal.returns-in-Err-clause-kind
returns-in-Err-clause-kind g c = key_failure_of g.K.Ord.cmp _ c.loop-k.self c.insert.new.self c.in-Some.k _ c.in-Err.refusal refl c.in-Err.ensures.err c.in-Err.ensures.present c.in-Err.ensures.full

use Rattle.std.proofs.Common.{arith}
use Rattle.std.specs.Map.Iter.{deref_pair}
use Rattle.bptree_commands.specs.Steps.{IsCopyOf}
use Rattle.bptree_commands.proofs.EndLemmas.{walking_start, walking_more, walking_end}
use Rattle.bptree_commands.proofs.walk.taken.Goals as goal

pub loop-end-init : goal.loop-end-init
loop-end-init g c = (
  rw c.in_ok-outcomes.ensures.items (walking_start (IsCopyOf g.S.K.Ord.cmp) c.args.word.now c.args.pairs),
  omega (arith, c.in_ok-outcomes.ensures.len, c.in_ok-outcomes.ensures.capacity),
)

pub loop-end-smaller : goal.loop-end-smaller
loop-end-smaller g c = omega (arith, c.in-Some.ensures.cases.1)

pub push_reserved-requires : goal.push_reserved-requires
push_reserved-requires g c = omega (arith, c.loop-end.invariant.1, c.in-Some.ensures.cases.1)

pub loop-end-preserved : goal.loop-end-preserved
loop-end-preserved g c = (
  rw c.push_reserved.ensures.items
      (walking_more (IsCopyOf g.S.K.Ord.cmp) deref_pair _ c.in-Some.end.now c.in-Some.rest.now c.loop-end.pairs c.take_pair-pair.new.pairs c.loop-end.outcomes.items c.take_pair-pair.result c.in_ok-copy_of.field-0
      (rw c.in-Some.ensures.cases.0 at c.loop-end.invariant.0) c.take_pair-pair.ensures c.in_ok-copy_of.ensures),
  omega (arith, c.loop-end.invariant.1, c.in-Some.ensures.cases.1, c.push_reserved.ensures.len, c.push_reserved.ensures.capacity),
)

pub returns : goal.returns
returns g c = walking_end (IsCopyOf g.S.K.Ord.cmp) _ c.loop-end.left.now c.loop-end.pairs c.loop-end.outcomes.items c.loop-end.invariant.0 c.in_default.ensures.cases

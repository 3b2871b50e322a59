use Rattle.bptree_set.proofs.MemberLemmas.{after_first}
use Rattle.bptree_set.proofs.WalkLemmas.{fetched_missing}
use Rattle.bptree_set.proofs.set.sifted.fetch.Goals as goal

pub loop-key-preserved : goal.loop-key-preserved
loop-key-preserved g c = (
  after_first g.K.Ord.cmp c.loop-key.keys c.next.new.self c.in-Some.key.now c.in-Some.ensures.steps c.loop-key.invariant.0,
  rw c.loop-key.invariant.1 (fetched_missing g.K.Ord.cmp g.met.K.Ord.total c.args.other.now c.loop-key.keys c.next.new.self c.in-Some.key.now c.in-Some.ensures.steps c.in_default-get.ensures),
)

pub returns-in-Some-get-clause-ascending : goal.returns-in-Some-get-clause-ascending
returns-in-Some-get-clause-ascending g c = after_first g.K.Ord.cmp c.loop-key.keys c.next.new.self c.in-Some.key.now c.in-Some.ensures.steps c.loop-key.invariant.0

use Rattle.std.proofs.Common.{◌∙◌, sym}
use Rattle.bptree_set.proofs.MemberLemmas.{after_first}
use Rattle.bptree_set.proofs.SiftLemmas.{key_given, key_passed}
use Rattle.bptree_set.proofs.set.sifted.seek.Goals as goal

pub loop-key-preserved : goal.loop-key-preserved
loop-key-preserved g c = (
  after_first g.K.Ord.cmp c.loop-key.keys c.next.new.self c.in-Some.key.now c.in-Some.ensures.steps c.loop-key.invariant.0,
  c.loop-key.invariant.1 ∙ key_passed g.K.Ord.cmp g.W.SetOp.keeps c.loop-key.keys c.next.new.self c.in-Some.key.now c.args.other.now _ c.in-Some.ensures.steps c.contains.ensures (sym c.if-is_kept.false ∙ c.is_kept.ensures),
)

pub returns-then-is_kept-clause-ascending : goal.returns-then-is_kept-clause-ascending
returns-then-is_kept-clause-ascending g c = after_first g.K.Ord.cmp c.loop-key.keys c.next.new.self c.in-Some.key.now c.in-Some.ensures.steps c.loop-key.invariant.0

pub returns-then-is_kept-clause-takes : goal.returns-then-is_kept-clause-takes
returns-then-is_kept-clause-takes g c =
    c.loop-key.invariant.1 ∙ key_given g.K.Ord.cmp g.W.SetOp.keeps c.loop-key.keys c.next.new.self c.in-Some.key.now c.args.other.now _ c.in-Some.ensures.steps c.contains.ensures (sym c.if-is_kept.true ∙ c.is_kept.ensures)

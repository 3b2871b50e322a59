use Rattle.std.proofs.Common.{◌≡◌, ◌∙◌, refl, sym, arith}
use Rattle.std.proofs.lemmas.Fn.{Called-at_two}
use denote.Param.Always.{mut_next}
use Rattle.bptree_load_plan.specs.declared.dedup.Ahead.TheVariants.{Unasked, Held}
use Rattle.bptree_load_plan.proofs.DedupLemmas.{started, goes_on, parts, ends}
use Rattle.bptree_load_plan.proofs.dedup.DeDupKeepLastIterator.next.Goals.{in-Unasked+in_ok-last-in-Unasked, in-Held}
use Rattle.bptree_load_plan.proofs.dedup.DeDupKeepLastIterator.next.Goals as goal

pub loop-item-init : goal.loop-item-init
loop-item-init g c = elim c.match-replace.branch [
  | in-Unasked+in_ok-last-in-Unasked w ↦
      let is : c.args.self.now.ahead ≡ Unasked = sym c.replace.ensures.value ∙ w.in-Unasked.is in
      let before = rw is at c.requires.0 in
      let goes = w.in_ok-last-in-Unasked.ensures.goes in
      rw (w.self-is, w.last-is) (record {
        held = c.replace.ensures.after;
        can = goes.keeps;
        finite = (goes.on before.1).1;
        fewer = rw is (goes.on before.1).2;
        callable = c.requires.1;
        so_far = started g.I.Iterator.next_gives g.F.FnMut c.args.self.now _ _ (rw is w.in_ok-last-in-Unasked.ensures.steps);
      })
  | in-Held w ↦
      let is : c.args.self.now.ahead ≡ Held w.in-Held.item = sym c.replace.ensures.value ∙ w.in-Held.is in
      let before = rw is at c.requires.0 in
      rw (w.self-is, w.last-is) (record {
        held = c.replace.ensures.after;
        can = before.0;
        finite = before.1;
        fewer = rw is (omega arith);
        callable = c.requires.1;
        so_far = started g.I.Iterator.next_gives g.F.FnMut c.args.self.now _ _ (rw is (refl, refl));
      })
]

pub loop-item-preserved : goal.loop-item-preserved
loop-item-preserved g c = record {
  held = c.loop-item.invariant.held;
  can = c.in-Some.ensures.goes.keeps;
  finite = (c.in-Some.ensures.goes.on c.loop-item.invariant.finite).1;
  fewer = omega (arith, (c.in-Some.ensures.goes.on c.loop-item.invariant.finite).2);
  callable = mut_next g.F.FnMut _ _ _ _ _ c.same.ensures refl c.loop-item.invariant.callable;
  so_far = λ y t run. c.loop-item.invariant.so_far y t (goes_on g.I.Iterator.next_gives g.F.FnMut _ _ _ _ _ _ y t c.in-Some.ensures.steps (Called-at_two g.F.FnMut c.same.ensures cc) run);
}

pub returns-then-not-same-clause-steps : goal.returns-then-not-same-clause-steps
returns-then-not-same-clause-steps g c = c.loop-item.invariant.so_far _ _ (parts g.I.Iterator.next_gives g.F.FnMut _ _ _ _ _ _ c.in-Some.ensures.steps (Called-at_two g.F.FnMut c.same.ensures cc))

pub returns-clause-steps : goal.returns-clause-steps
returns-clause-steps g c = rw c.loop-item.invariant.held (c.loop-item.invariant.so_far _ _ (ends g.I.Iterator.next_gives g.F.FnMut _ _ _ _ c.in_default.ensures.steps))

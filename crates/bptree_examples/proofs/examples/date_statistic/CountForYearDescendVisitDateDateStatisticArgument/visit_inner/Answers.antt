use Rattle.std.proofs.Common.{Some, arith, ap, ◌∙◌}
use Rattle.std.proofs.lemmas.List.{length-map, take_all}
use Rattle.std.specs.Map.{keys_of}
use Rattle.bptree_arguments.specs.Visits.{returned, key_pieces}
use Rattle.bptree_arguments.proofs.VisitLemmas.{keys_of-flatten, piece_at-keys}
use Rattle.bptree_keys.proofs.PieceLemmas.{AllZip-length}
use Rattle.bptree_examples.specs.Dates.{IsStatistic}
use Rattle.bptree_examples.proofs.DateVisits.{over, not_yet, ends_in, within, begins_in, never_turned}
use Rattle.bptree_examples.proofs.examples.date_statistic.CountForYearDescendVisitDateDateStatisticArgument.visit_inner.Goals as goal
use Rattle.bptree_examples.proofs.examples.date_statistic.CountForYearDescendVisitDateDateStatisticArgument.visit_inner.Goals.{then-last-year, else-last-year+else-last-year-2+else-first-year-3}

pub returns-then-first-year : goal.returns-then-first-year
returns-then-first-year g c = record {
  step = λ pieces are summaries wide.
      let parts = key_pieces pieces in
      rw keys_of-flatten (ap (λ n. returned (Some n)) (over c.args.self.now.year c.args.self.now.counted c.loop-i.counted parts are c.args.arguments.now summaries c.loop-i.i c.loop-i-test.true _ (c.loop-i.invariant.sum parts are summaries) c.if-first-year.true));
}

pub returns-then-first-year-2 : goal.returns-then-first-year-2
returns-then-first-year-2 g c = record {
  step = λ pieces are summaries wide.
      let parts = key_pieces pieces in
      rw keys_of-flatten (ap (λ n. returned (Some n)) (c.saturating_add-counted-then-first-year-2.ensures ∙ begins_in c.args.self.now.year c.args.self.now.counted c.loop-i.counted parts are c.args.arguments.now summaries c.loop-i.i c.loop-i-test.true _ (c.loop-i.invariant.sum parts are summaries) c.if-last-year-2.true c.if-first-year-2.true));
}

pub returns-then-last-year-2 : goal.returns-then-last-year-2
returns-then-last-year-2 g c = record {
  step = λ pieces are summaries wide.
      let parts = key_pieces pieces in
      let down = within c.args.self.now.year c.args.self.now.counted c.loop-i.counted parts are c.args.arguments.now summaries c.loop-i.i c.loop-i-test.true _ (c.loop-i.invariant.sum parts are summaries) c.if-last-year-2.true in (
        λ l outcome e. rw keys_of-flatten ((rw (c.loop-i.invariant.same, ← piece_at-keys pieces c.loop-i.i) at e) ∙ ap (λ n. returned (Some n)) down),
        λ past. absurd (omega (arith, past, c.loop-i-test.true, AllZip-length IsStatistic c.args.arguments.now parts summaries, length-map pieces (λ p. keys_of p))),
      );
}

pub returns-then-first-year-3 : goal.returns-then-first-year-3
returns-then-first-year-3 g c = record {
  step = λ pieces are summaries wide.
      let parts = key_pieces pieces in
      absurd (never_turned c.args.self.now.year c.args.self.now.counted c.loop-i.counted parts are c.args.arguments.now summaries c.loop-i.i c.loop-i-test.true _ (c.loop-i.invariant.sum parts are summaries) c.if-last-year.false c.if-last-year-2.false c.if-first-year-3.true);
}

pub loop-i-preserved : goal.loop-i-preserved
loop-i-preserved g c = record {
  same = c.loop-i.invariant.same;
  sum = λ pieces are summaries.
      let now = c.loop-i.invariant.sum pieces are summaries in
      elim c.if-last-year.branch [
        | then-last-year w ↦ rw w.counted-is (w.saturating_add-counted.ensures ∙ ends_in c.args.self.now.year c.args.self.now.counted c.loop-i.counted pieces are c.args.arguments.now summaries c.loop-i.i c.loop-i-test.true _ now w.if-last-year.true)
        | else-last-year+else-last-year-2+else-first-year-3 w ↦ rw w.counted-is (not_yet c.args.self.now.year c.args.self.now.counted c.loop-i.counted pieces are c.args.arguments.now summaries c.loop-i.i c.loop-i-test.true _ now w.if-last-year.false w.if-last-year-2.false)
      ];
}

pub returns : goal.returns
returns g c = record {
  step = λ pieces are summaries wide.
      let parts = key_pieces pieces in
      let all = take_all c.loop-i.i parts (omega (arith, c.loop-i-test.false, AllZip-length IsStatistic c.args.arguments.now parts summaries)) in
      rw keys_of-flatten (ap (λ n. returned (Some n)) (rw all at (c.loop-i.invariant.sum parts are summaries)));
}

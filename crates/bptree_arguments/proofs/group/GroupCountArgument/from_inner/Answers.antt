use Rattle.std.proofs.Common.{◌≡◌, length, None, ap, arith, option_map}
use Rattle.std.proofs.lemmas.List.{take_all}
use Rattle.bptree_keys.proofs.PieceLemmas.{AllZip-length}
use Rattle.bptree_arguments.proofs.GroupLemmas.{child_within, summary_here}
use Rattle.bptree_arguments.proofs.GroupEndsLemmas.{ends_kept, ends_skip, ends_first, ends_more}
use Rattle.bptree_arguments.proofs.GroupSumLemmas.{more_reported}
use Rattle.bptree_arguments.specs.GroupSums.{summary_of_ends}
use Rattle.bptree_arguments.proofs.group.GroupCountArgument.from_inner.Goals as goal
use Rattle.bptree_arguments.proofs.group.GroupCountArgument.from_inner.Goals.{in-None, in-Some, in-None-whole, in-Some-whole}

pub loop-argument-preserved : goal.loop-argument-preserved
loop-argument-preserved g c = record {
  first = λ e. absurd (omega (arith, e));
  known = λ pieces are summaries.
      let cmp = g.K.Ord.cmp in
      let compare = g.G.Ord.cmp in
      let group_of = g.G.FromRef.group_of in
      let keeps = g.met.G.FromRef.keeps_order in
      let total = g.met.G.Ord.total in
      let i = c.loop-argument.argument-index in
      let inside = child_within compare group_of pieces c.args.arguments.now summaries i c.loop-argument-test.true in
      let here = summary_here compare group_of pieces c.args.arguments.now summaries i c.loop-argument-test.true c.argument-item.result c.argument-item.is in
      let known = c.loop-argument.invariant.known pieces are summaries in
      elim c.match-ends.branch [
        | in-None w ↦ rw w.whole-is (ends_skip cmp compare group_of keeps total pieces i inside are c.loop-argument.whole known (w.in-None.ensures.ends _ here))
        | in-Some w ↦ elim w.match-whole.branch [
          | in-None-whole v ↦ rw (w.whole-is, v.whole-is) (ends_first cmp compare group_of keeps total pieces i inside are w.in-Some.next (rw v.in-None-whole.is at known) (w.in-Some.ensures.ends _ here))
          | in-Some-whole v ↦ rw (w.whole-is, v.whole-is) (ends_more cmp compare group_of keeps total pieces i inside are v.in-Some-whole.ends w.in-Some.next v.followed_by.result v.followed_by.ensures.ends (rw v.in-Some-whole.is at known) (w.in-Some.ensures.ends _ here))
        ]
      ];
  reported =
      let compare = g.G.Ord.cmp in
      let before = c.loop-argument.invariant.reported in
      let step = more_reported compare c.args.arguments.now c.loop-argument.argument-index c.argument-item.result c.loop-argument-test.true c.argument-item.is (option_map (λ ends. summary_of_ends ends) c.loop-argument.whole) before in
      elim c.match-ends.branch [
        | in-None w ↦ rw w.whole-is (rw (← w.in-None.ensures.reported) at step)
        | in-Some w ↦ elim w.match-whole.branch [
          | in-None-whole v ↦ rw (w.whole-is, v.whole-is) (rw (← w.in-Some.ensures.reported, v.in-None-whole.is) at step)
          | in-Some-whole v ↦ rw (w.whole-is, v.whole-is, v.followed_by.ensures.reported) (rw (← w.in-Some.ensures.reported, v.in-Some-whole.is) at step)
        ]
      ];
}

pub returns-in-None-whole-2-clause-reported : goal.returns-in-None-whole-2-clause-reported
returns-in-None-whole-2-clause-reported g c =
    let whole = take_all c.loop-argument.argument-index c.args.arguments.now (omega arith) in
    let none = rw (whole, c.in-None-whole-2.is) at c.loop-argument.invariant.reported in
    rw (← none) tt

pub returns-in-Some-whole-2-clause-reported : goal.returns-in-Some-whole-2-clause-reported
returns-in-Some-whole-2-clause-reported g c =
    let whole = take_all c.loop-argument.argument-index c.args.arguments.now (omega arith) in
    let some = rw (whole, c.in-Some-whole-2.is) at c.loop-argument.invariant.reported in
    rw (← some) c.to_summary.ensures.reported

pub returns-in-None-whole-2-clause-summary : goal.returns-in-None-whole-2-clause-summary
returns-in-None-whole-2-clause-summary g c = λ pieces are summaries.
    let whole = take_all c.loop-argument.argument-index pieces (omega (arith, c.loop-argument-test.false, AllZip-length _ c.args.arguments.now pieces summaries)) in
    rw (whole, c.in-None-whole-2.is) at (c.loop-argument.invariant.known pieces are summaries)

pub returns-in-Some-whole-2-clause-summary : goal.returns-in-Some-whole-2-clause-summary
returns-in-Some-whole-2-clause-summary g c =
    ends_kept g.K.Ord.cmp g.G.Ord.cmp g.G.FromRef.group_of c.to_summary.result c.args.arguments.now c.in-Some-whole-2.ends c.to_summary.ensures.summary (λ pieces are summaries. rw (take_all c.loop-argument.argument-index pieces (omega (arith, c.loop-argument-test.false, AllZip-length _ c.args.arguments.now pieces summaries)), c.in-Some-whole-2.is) at (c.loop-argument.invariant.known pieces are summaries))

pub returns-in-Some-whole-2-clause-empty : goal.returns-in-Some-whole-2-clause-empty
returns-in-Some-whole-2-clause-empty g c = λ e.
    let none : c.loop-argument.whole ≡ None = c.loop-argument.invariant.first (omega (arith, ap length e)) in
    let some = c.in-Some-whole-2.is in
    cc

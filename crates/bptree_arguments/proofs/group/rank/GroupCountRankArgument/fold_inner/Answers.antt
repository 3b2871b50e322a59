use Rattle.std.proofs.Common.{◌≡◌, ◌∙◌, arith, ap, length, refl, sym}
use Rattle.bptree_arguments.specs.GroupResults.{carried}
use Rattle.std.proofs.lemmas.List.{nil_from_length}
use Rattle.std.proofs.lemmas.Bool.{eqb-true, true≢false}
use Rattle.std.proofs.lemmas.Result.{IfOk-from_err}
use Rattle.bptree_arguments.proofs.GroupRankLemmas.{all_counted, carried_alike, more_none, more_same, no_child, none_behind, stopped}
use Rattle.bptree_arguments.proofs.GroupSumLemmas.{all_over, none_over, over_alike, same_over, skipped_over, stopped_over}
use Rattle.bptree_arguments.proofs.group.rank.GroupCountRankArgument.fold_inner.Goals as goal

pub returns-then-is_empty-clause-carries : goal.returns-then-is_empty-clause-carries
returns-then-is_empty-clause-carries g c = λ before pieces nonempty summaries ascending below fits stored.
    rw (no_child _ c.args.arguments.now pieces summaries (eqb-true (length c.args.arguments.now) 0 (sym c.if-is_empty.ensures)) before) stored

pub returns-then-is_empty-clause-unchanged : goal.returns-then-is_empty-clause-unchanged
returns-then-is_empty-clause-unchanged g c = λ none. refl

pub loop-i-init : goal.loop-i-init
loop-i-init g c = record {
  same = refl;
  counted = λ pieces summaries. none_behind g.K.Ord.cmp g.G.Ord.cmp g.G.FromRef.group_of g.met.G.FromRef.keeps_order g.met.G.Ord.total c.args.k.now c.in_ok-group.group c.in_ok-group.ensures c.args.arguments.now pieces summaries;
  fits = omega arith;
  over = none_over g.G.Ord.cmp c.in_ok-group.group c.args.arguments.now;
}

pub loop-i-preserved-in-None : goal.loop-i-preserved-in-None
loop-i-preserved-in-None g c = record {
  same = c.loop-i.invariant.same;
  counted = λ pieces summaries. more_none g.K.Ord.cmp g.G.Ord.cmp g.G.FromRef.group_of g.met.G.FromRef.keeps_order g.met.G.Ord.total c.args.k.now c.in_ok-group.group c.in_ok-group.ensures c.args.arguments.now pieces summaries c.loop-i.i c.loop-i.count (c.loop-i.invariant.counted pieces summaries) c.loop-i-test.true c.loop-i.auto.i c.index-arguments-i.result c.index-arguments-i.is c.in-None.ensures.greatest;
  fits = c.loop-i.invariant.fits;
  over = skipped_over g.G.Ord.cmp c.in_ok-group.group c.args.arguments.now c.loop-i.i c.loop-i.count c.loop-i.invariant.over c.loop-i-test.true c.loop-i.auto.i c.index-arguments-i.result c.index-arguments-i.is c.in-None.ensures.exact;
}

pub loop-i-preserved : goal.loop-i-preserved
loop-i-preserved g c = record {
  same = c.loop-i.invariant.same;
  counted = λ pieces summaries.
      rw c.saturating_add-count.ensures
      (more_same g.K.Ord.cmp g.G.Ord.cmp g.G.FromRef.group_of g.met.G.FromRef.keeps_order g.met.G.Ord.total c.args.k.now c.in_ok-group.group c.in_ok-group.ensures c.args.arguments.now pieces summaries c.loop-i.i c.loop-i.count (c.loop-i.invariant.counted pieces summaries) c.loop-i-test.true c.loop-i.auto.i c.index-arguments-i.result c.index-arguments-i.is c.in-Some.greatest.now c.in-Some.size c.in-Some.ensures.greatest c.in-Equal.ensures);
  fits = omega (arith, c.saturating_add-count.ensures);
  over =
      rw c.saturating_add-count.ensures
      (same_over g.G.Ord.cmp c.in_ok-group.group c.args.arguments.now c.loop-i.i c.loop-i.count c.loop-i.invariant.over c.loop-i-test.true c.loop-i.auto.i c.index-arguments-i.result c.index-arguments-i.is c.in-Some.greatest.now c.in-Some.size c.in-Some.ensures.exact c.in-Equal.ensures);
}

pub returns-in_default-clause-carries : goal.returns-in_default-clause-carries
returns-in_default-clause-carries g c = λ before pieces nonempty summaries ascending below fits stored.
    stopped g.K.Ord.cmp g.G.Ord.cmp g.G.FromRef.group_of g.met.G.FromRef.keeps_order g.met.G.Ord.total c.args.k.now c.in_ok-group.group c.in_ok-group.ensures c.args.arguments.now pieces summaries c.loop-i.i c.loop-i.count (c.loop-i.invariant.counted pieces summaries) c.loop-i-test.true c.loop-i.auto.i c.index-arguments-i.result c.index-arguments-i.is c.in-Some.greatest.now c.in-Some.size c.in-Some.ensures.greatest c.cmp.result c.cmp.ensures c.in_default.not-Equal before ascending below fits

pub returns-clause-carries : goal.returns-clause-carries
returns-clause-carries g c = λ before pieces nonempty summaries ascending below fits stored.
    rw c.saturating_add-count-2.ensures
    (all_counted g.K.Ord.cmp g.G.Ord.cmp g.G.FromRef.group_of g.met.G.FromRef.keeps_order g.met.G.Ord.total c.args.k.now c.in_ok-group.group c.in_ok-group.ensures c.args.arguments.now pieces summaries c.loop-i.i c.loop-i.count (c.loop-i.invariant.counted pieces summaries) c.args.rank c.carried_for.result before c.loop-i-test.false fits stored (rw c.loop-i.invariant.same at c.carried_for.ensures))

pub returns-then-is_empty-clause-capped : goal.returns-then-is_empty-clause-capped
returns-then-is_empty-clause-capped g c = λ some. absurd (some (nil_from_length c.args.arguments.now (eqb-true (length c.args.arguments.now) 0 (sym c.if-is_empty.ensures))))

pub returns-in_default-clause-capped : goal.returns-in_default-clause-capped
returns-in_default-clause-capped g c = λ some. (
  c.in_ok-group.ensures,
  rw (← over_alike g.met.G.Ord.total c.in_ok-group.group (g.G.FromRef.group_of c.args.k.now) c.in_ok-group.ensures _ c.args.arguments.now)
      (stopped_over g.G.Ord.cmp c.in_ok-group.group c.args.arguments.now c.loop-i.i c.loop-i.count c.loop-i.invariant.over c.loop-i-test.true c.loop-i.auto.i c.index-arguments-i.result c.index-arguments-i.is c.in-Some.greatest.now c.in-Some.size c.in-Some.ensures.exact (λ e. c.in_default.not-Equal (c.cmp.ensures ∙ e)) _ c.loop-i.invariant.fits),
)

pub returns-clause-capped : goal.returns-clause-capped
returns-clause-capped g c =
    let v = c.in_ok-group.group in
    let compare = g.G.Ord.cmp in
    let of_key = g.G.FromRef.group_of c.args.k.now in
    let carries : c.carried_for.result ≡ carried compare of_key c.args.rank = rw c.loop-i.invariant.same at c.carried_for.ensures ∙ carried_alike g.met.G.Ord.total v of_key c.in_ok-group.ensures c.args.rank in
    let over = over_alike g.met.G.Ord.total v of_key c.in_ok-group.ensures (carried compare of_key c.args.rank) c.args.arguments.now in
    let all = all_over compare v c.args.arguments.now c.loop-i.i c.loop-i.count (carried compare of_key c.args.rank) c.loop-i.invariant.over c.loop-i-test.false in
    λ some. (
      c.in_ok-group.ensures,
      omega (arith, c.saturating_add-count-2.ensures, carries, over, all),
    )

pub returns-in_err-group-clause-carries : goal.returns-in_err-group-clause-carries
returns-in_err-group-clause-carries g c = IfOk-from_err c.from_residual.result _ c.from_residual.ensures.0

pub returns-in_err-group-clause-unchanged : goal.returns-in_err-group-clause-unchanged
returns-in_err-group-clause-unchanged g c = λ none. absurd (true≢false (sym (rw none at c.if-is_empty.ensures)))

pub returns-in_err-group-clause-capped : goal.returns-in_err-group-clause-capped
returns-in_err-group-clause-capped g c = λ some. IfOk-from_err c.from_residual.result _ c.from_residual.ensures.0

pub returns-clause-unchanged : goal.returns-clause-unchanged
returns-clause-unchanged g c = λ none. absurd (true≢false (sym (rw none at c.if-is_empty.ensures)))

pub returns-in_default-clause-unchanged : goal.returns-in_default-clause-unchanged
returns-in_default-clause-unchanged g c = λ none. absurd (omega (arith, ap length none, c.loop-i-test.true, c.loop-i.auto.i))

use Rattle.std.proofs.Common.{refl, arith}
use Rattle.std.proofs.Math.Seq.{take-add}
use Rattle.bptree_load_plan.proofs.RunLemmas.{kept_more}
use Rattle.bptree_load_plan.proofs.loading.kept_at_start.Goals as goal

pub loop-at-preserved : goal.loop-at-preserved
loop-at-preserved g c = record {
  within = omega arith;
  stay = kept_more g.K.Ord.cmp c.args.pairs.now c.args.pairs.now c.args.pairs.now c.loop-at.at c.loop-at.at c.loop-at.invariant.stay (rw c.if-is_last_of_run.true at c.is_last_of_run.ensures) (take-add c.loop-at.at 1 c.args.pairs.now) refl;
}

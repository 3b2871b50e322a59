use Rattle.std.proofs.Common.{◌∙◌, sym, subst, arith}
use Rattle.bptree_keys.specs.Contents.{IsAscending}
use Rattle.bptree_load_plan.proofs.RunLemmas.{kept_more, kept_same, all_passed}
use Rattle.bptree_load_plan.proofs.OrderLemmas.{load_ascending}
use Rattle.bptree_load_plan.proofs.loading.keep_last_of_each_run.Goals.{then-is_last_of_run, else-is_last_of_run}
use Rattle.bptree_load_plan.proofs.loading.keep_last_of_each_run.Goals as goal

pub loop-at-preserved : goal.loop-at-preserved
loop-at-preserved g c = elim c.if-is_last_of_run.branch [
  | then-is_last_of_run w ↦ rw (w.pairs-is, w.kept-is) (record {
    in_order = omega arith;
    in_range = omega (arith, w.move_down.ensures.len);
    so_far = kept_more g.K.Ord.cmp _ c.loop-at.pairs.items _ c.loop-at.kept c.loop-at.at c.loop-at.invariant.so_far (rw (c.as_slice-in-loop-at.ensures.value, w.if-is_last_of_run.true) at c.is_last_of_run.ensures) w.move_down.ensures.kept w.move_down.ensures.rest;
  })
  | else-is_last_of_run w ↦ rw (w.pairs-is, w.kept-is) (record {
    in_order = omega arith;
    in_range = omega arith;
    so_far = kept_same g.K.Ord.cmp _ c.loop-at.pairs.items c.loop-at.kept c.loop-at.at c.loop-at.invariant.so_far (rw (c.as_slice-in-loop-at.ensures.value, w.if-is_last_of_run.false) at c.is_last_of_run.ensures);
  })
]

pub returns-clause-order : goal.returns-clause-order
returns-clause-order g c = subst (IsAscending g.K.Ord.cmp) (sym (c.truncate.ensures.items ∙ all_passed g.K.Ord.cmp _ c.loop-at.pairs.items c.loop-at.kept c.loop-at.at (omega arith) c.loop-at.invariant.so_far)) (load_ascending g.K.Ord.cmp g.met.K.Ord.total _ c.requires)

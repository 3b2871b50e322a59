use Rattle.std.proofs.Common.{◌∷◌, [], length, length-append, arith, ap, sym}
use mathlib.Core.Bool.{true≢false}
use Rattle.bptree_invariant.specs.Outcome.{Done}
use Rattle.bptree_propagation.proofs.AnySummary.{risen_untouched}
use Rattle.bptree_propagation.proofs.Climbing.{empty_path, present, argument_index, climbs_keeps, risen_keeps, index_above, present_after, index_after, put_back, risen_here}
use Rattle.bptree_propagation.proofs.ascent.+ascend.Goals as goal

pub returns-then-is_zst-clause-rises : goal.returns-then-is_zst-clause-rises
returns-then-is_zst-clause-rises g t c climbs =
    risen_untouched g.met.S.K.Ord.total g.S.Argument.Argument.is_summary (c.is_zst.ensures.any c.if-is_zst.true) (g.S.NodeStore.slots c.args.store.now) c.args.path.now c.args.summary climbs.climbs

pub returns-in_default-clause-rises : goal.returns-in_default-clause-rises
returns-in_default-clause-rises g t c climbs =
    risen_here g.met.S.K.Ord.total g.S.Argument.Argument.is_summary (g.S.NodeStore.slots c.args.store.now) c.args.path.now c.args.summary climbs.climbs (empty_path c.args.path.now (λ some. true≢false (sym (c.in_default.ensures.variant.1 some))))

pub set_at-old-requires-clause-present : goal.set_at-old-requires-clause-present
set_at-old-requires-clause-present g t c = present g.met.S.K.Ord.total g.S.Argument.Argument.is_summary (g.S.NodeStore.slots c.args.store.now) c.args.path.now Done c.requires.climbs.climb c.pop.new.self c.in-Some.id c.in-Some.index c.in-Some.field-0-2 c.in-Some.ensures.some

pub set_at-old-requires-clause-index : goal.set_at-old-requires-clause-index
set_at-old-requires-clause-index g t c = argument_index g.met.S.K.Ord.total g.S.Argument.Argument.is_summary (g.S.NodeStore.slots c.args.store.now) (g.S.NodeStore.slots c.args.store.now) c.args.path.now c.args.summary c.requires.climbs c.pop.new.self c.in-Some.id c.in-Some.index c.in-Some.field-0-2 c.in-Some.ensures.some

pub sum_of_changed-requires-clause-present : goal.sum_of_changed-requires-clause-present
sum_of_changed-requires-clause-present g t c = present_after g.met.S.K.Ord.total g.S.Argument.Argument.is_summary (g.S.NodeStore.slots c.args.store.now) (g.S.NodeStore.slots c.set_at-old.new.store) c.args.path.now c.args.summary c.requires.climbs c.pop.new.self c.in-Some.id c.in-Some.index c.in-Some.field-0-2 c.in-Some.ensures.some c.set_at-old.result c.set_at-old.ensures.keeps

pub sum_of_changed-requires-clause-index : goal.sum_of_changed-requires-clause-index
sum_of_changed-requires-clause-index g t c = index_after g.met.S.K.Ord.total g.S.Argument.Argument.is_summary (g.S.NodeStore.slots c.args.store.now) (g.S.NodeStore.slots c.set_at-old.new.store) c.args.path.now c.args.summary c.requires.climbs c.pop.new.self c.in-Some.id c.in-Some.index c.in-Some.field-0-2 c.in-Some.ensures.some c.set_at-old.result c.set_at-old.ensures.keeps

pub sum_of_changed-requires-clause-above : goal.sum_of_changed-requires-clause-above
sum_of_changed-requires-clause-above g t c = index_above g.met.S.K.Ord.total g.S.Argument.Argument.is_summary (g.S.NodeStore.slots c.args.store.now) (g.S.NodeStore.slots c.set_at-old.new.store) c.args.path.now c.args.summary c.requires.climbs c.pop.new.self c.in-Some.id c.in-Some.index c.in-Some.field-0-2 c.in-Some.ensures.some c.set_at-old.result c.set_at-old.ensures.keeps

pub set_at-requires-clause-present : goal.set_at-requires-clause-present
set_at-requires-clause-present g t c = present_after g.met.S.K.Ord.total g.S.Argument.Argument.is_summary (g.S.NodeStore.slots c.args.store.now) (g.S.NodeStore.slots c.set_at-old.new.store) c.args.path.now c.args.summary c.requires.climbs c.pop.new.self c.in-Some.id c.in-Some.index c.in-Some.field-0-2 c.in-Some.ensures.some c.set_at-old.result c.set_at-old.ensures.keeps

pub set_at-requires-clause-index : goal.set_at-requires-clause-index
set_at-requires-clause-index g t c = index_after g.met.S.K.Ord.total g.S.Argument.Argument.is_summary (g.S.NodeStore.slots c.args.store.now) (g.S.NodeStore.slots c.set_at-old.new.store) c.args.path.now c.args.summary c.requires.climbs c.pop.new.self c.in-Some.id c.in-Some.index c.in-Some.field-0-2 c.in-Some.ensures.some c.set_at-old.result c.set_at-old.ensures.keeps

pub returns-in_default-sum_of_changed-clause-unchanged : goal.returns-in_default-sum_of_changed-clause-unchanged
returns-in_default-sum_of_changed-clause-unchanged g t c =
    (put_back g.met.S.K.Ord.total g.S.Argument.Argument.is_summary (g.S.NodeStore.slots c.args.store.now) (g.S.NodeStore.slots c.set_at-old.new.store) c.args.path.now c.args.summary c.requires.climbs c.pop.new.self c.in-Some.id c.in-Some.index c.in-Some.field-0-2 c.in-Some.ensures.some c.set_at-old.result c.set_at-old.ensures.keeps
    (g.S.NodeStore.slots c.set_at.new.store) c.set_at.result c.set_at.ensures.keeps).0

pub ascend-requires : goal.ascend-requires
ascend-requires g t c κs within = (
  omega (arith, ap length c.in-Some.ensures.some, length-append c.pop.new.self ((c.in-Some.id, c.in-Some.index, c.in-Some.field-0-2) ∷ [])),
  (within.0, (within.1.0, (within.1.1.0, (within.1.1.1, climbs_keeps g.met.S.K.Ord.total g.S.Argument.Argument.is_summary (g.S.NodeStore.slots c.args.store.now) (g.S.NodeStore.slots c.set_at-old.new.store) c.args.path.now c.args.summary c.requires.climbs c.pop.new.self c.in-Some.id c.in-Some.index c.in-Some.field-0-2 c.in-Some.ensures.some c.set_at-old.result c.set_at-old.ensures.keeps c.args.whole.now c.requires.had c.in-Ok.above c.in-Ok.ensures.sums)))),
)

pub set_at-requires-in-Err-clause-present : goal.set_at-requires-in-Err-clause-present
set_at-requires-in-Err-clause-present g t c = rw c.in-Err.ensures.unchanged (present_after g.met.S.K.Ord.total g.S.Argument.Argument.is_summary (g.S.NodeStore.slots c.args.store.now) (g.S.NodeStore.slots c.set_at-old.new.store) c.args.path.now c.args.summary c.requires.climbs c.pop.new.self c.in-Some.id c.in-Some.index c.in-Some.field-0-2 c.in-Some.ensures.some c.set_at-old.result c.set_at-old.ensures.keeps)

pub set_at-requires-in-Err-clause-index : goal.set_at-requires-in-Err-clause-index
set_at-requires-in-Err-clause-index g t c = rw c.in-Err.ensures.unchanged (index_after g.met.S.K.Ord.total g.S.Argument.Argument.is_summary (g.S.NodeStore.slots c.args.store.now) (g.S.NodeStore.slots c.set_at-old.new.store) c.args.path.now c.args.summary c.requires.climbs c.pop.new.self c.in-Some.id c.in-Some.index c.in-Some.field-0-2 c.in-Some.ensures.some c.set_at-old.result c.set_at-old.ensures.keeps)

pub returns-in-Ok-ascend-clause-rises : goal.returns-in-Ok-ascend-clause-rises
returns-in-Ok-ascend-clause-rises g t c climbs =
    risen_keeps g.met.S.K.Ord.total g.S.Argument.Argument.is_summary (g.S.NodeStore.slots c.args.store.now) (g.S.NodeStore.slots c.set_at-old.new.store) c.args.path.now c.args.summary climbs.climbs c.pop.new.self c.in-Some.id c.in-Some.index c.in-Some.field-0-2 c.in-Some.ensures.some c.set_at-old.result c.set_at-old.ensures.keeps c.args.whole.now climbs.had c.in-Ok.above c.in-Ok.ensures.sums
    (g.S.NodeStore.slots c.ascend.new.store) c.in-Ok-ascend.top c.in-Ok-ascend.ensures.rises

pub returns-in-Err-clause-unchanged : goal.returns-in-Err-clause-unchanged
returns-in-Err-clause-unchanged g t c =
    (put_back g.met.S.K.Ord.total g.S.Argument.Argument.is_summary (g.S.NodeStore.slots c.args.store.now) (g.S.NodeStore.slots c.set_at-old.new.store) c.args.path.now c.args.summary c.requires.climbs c.pop.new.self c.in-Some.id c.in-Some.index c.in-Some.field-0-2 c.in-Some.ensures.some c.set_at-old.result c.set_at-old.ensures.keeps
    (g.S.NodeStore.slots c.set_at-in-Err.new.store) c.set_at-in-Err.result (rw c.in-Err.ensures.unchanged at c.set_at-in-Err.ensures.keeps)).0

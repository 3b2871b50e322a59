use Rattle.std.proofs.Common.{◌∷◌, [], length, length-append, arith, ap, sym}
use mathlib.Core.Bool.{true≢false}
use Rattle.bptree_propagation.proofs.Climbing.{empty_path}
use Rattle.bptree_propagation.proofs.ClimbingTwo.{node_present, node_index_at, climbs_linked, risen_linked, index_linked, when_linked, climbs_split, reaches_split, sizes_split, index_split, when_split, risen_by_one}
use Rattle.bptree_propagation.proofs.ascent.+ascend_split.Goals as goal

pub returns-in_default-clause-rises : goal.returns-in_default-clause-rises
returns-in_default-clause-rises g t c climbs same =
    let none = empty_path c.args.path.now (λ some. true≢false (sym (c.in_default.ensures.variant.1 some))) in
    risen_by_one g.met.S.K.Ord.total g.S.Argument.Argument.is_summary (g.S.NodeStore.slots c.args.store.now) (g.S.NodeStore.slots c.grow_root.new.store) c.args.path.now c.args.division climbs.0 none c.args.root same c.in_ok-top.top c.in_ok-top.above c.in_ok-top.ensures.roots c.in_ok-top.ensures.sums

pub get_inner-requires : goal.get_inner-requires
get_inner-requires g t c = node_present g.met.S.K.Ord.total g.S.Argument.Argument.is_summary (g.S.NodeStore.slots c.args.store.now) (g.S.NodeStore.slots c.args.store.now) c.args.path.now c.args.division c.requires.climbs.0 c.pop.new.self c.in-Some.id c.in-Some.index c.in-Some.field-0-2 c.in-Some.ensures.some

pub link_at-requires-clause-index : goal.link_at-requires-clause-index
link_at-requires-clause-index g t c = node_index_at g.met.S.K.Ord.total g.S.Argument.Argument.is_summary (g.S.NodeStore.slots c.args.store.now) (g.S.NodeStore.slots c.args.store.now) c.args.path.now c.args.division c.requires.climbs.0 c.pop.new.self c.in-Some.id c.in-Some.index c.in-Some.field-0-2 c.in-Some.ensures.some

pub split_inner_at-requires-clause-index : goal.split_inner_at-requires-clause-index
split_inner_at-requires-clause-index g t c = node_index_at g.met.S.K.Ord.total g.S.Argument.Argument.is_summary (g.S.NodeStore.slots c.args.store.now) (g.S.NodeStore.slots c.args.store.now) c.args.path.now c.args.division c.requires.climbs.0 c.pop.new.self c.in-Some.id c.in-Some.index c.in-Some.field-0-2 c.in-Some.ensures.some

pub ascend-requires : goal.ascend-requires
ascend-requires g t c = record { climbs = climbs_linked g.met.S.K.Ord.total g.S.Argument.Argument.is_summary (g.S.NodeStore.slots c.args.store.now) (g.S.NodeStore.slots c.link_at.new.store) c.args.path.now c.args.division c.requires.climbs.0 c.pop.new.self c.in-Some.id c.in-Some.index c.in-Some.field-0-2 c.in-Some.ensures.some c.in_ok-above.field-0.old c.in_ok-above.ensures.links c.in_ok-above.field-0.above c.in_ok-above.ensures.sums; had = c.requires.climbs.1 }

pub unlink_at-requires : goal.unlink_at-requires
unlink_at-requires g t c = record { index = rw c.in-Err.ensures.unchanged (index_linked g.met.S.K.Ord.total g.S.Argument.Argument.is_summary (g.S.NodeStore.slots c.args.store.now) (g.S.NodeStore.slots c.link_at.new.store) c.args.path.now c.args.division c.requires.climbs.0 c.pop.new.self c.in-Some.id c.in-Some.index c.in-Some.field-0-2 c.in-Some.ensures.some c.in_ok-above.field-0.old c.in_ok-above.ensures.links) }

pub returns-in-Ok-clause-rises : goal.returns-in-Ok-clause-rises
returns-in-Ok-clause-rises g t c climbs same =
    risen_linked g.met.S.K.Ord.total g.S.Argument.Argument.is_summary (g.S.NodeStore.slots c.args.store.now) (g.S.NodeStore.slots c.link_at.new.store) c.args.path.now c.args.division climbs.0 c.pop.new.self c.in-Some.id c.in-Some.index c.in-Some.field-0-2 c.in-Some.ensures.some c.in_ok-above.field-0.old c.in_ok-above.ensures.links c.in_ok-above.field-0.above c.in_ok-above.ensures.sums
    (g.S.NodeStore.slots c.ascend.new.store) c.in-Ok.top (c.in-Ok.ensures.rises (record { climbs = climbs_linked g.met.S.K.Ord.total g.S.Argument.Argument.is_summary (g.S.NodeStore.slots c.args.store.now) (g.S.NodeStore.slots c.link_at.new.store) c.args.path.now c.args.division climbs.0 c.pop.new.self c.in-Some.id c.in-Some.index c.in-Some.field-0-2 c.in-Some.ensures.some c.in_ok-above.field-0.old c.in_ok-above.ensures.links c.in_ok-above.field-0.above c.in_ok-above.ensures.sums; had = climbs.1 }))

pub returns-in-Err-clause-unchanged : goal.returns-in-Err-clause-unchanged
returns-in-Err-clause-unchanged g t c = (when_linked g.met.S.K.Ord.total g.S.Argument.Argument.is_summary (g.S.NodeStore.slots c.args.store.now) (g.S.NodeStore.slots c.link_at.new.store) c.args.path.now c.args.division c.requires.climbs.0 c.pop.new.self c.in-Some.id c.in-Some.index c.in-Some.field-0-2 c.in-Some.ensures.some c.in_ok-above.field-0.old c.in_ok-above.ensures.links
    (λ was here index linked. c.unlink_at.ensures.undoes (g.S.NodeStore.slots c.args.store.now) was c.args.division here index (rw c.in-Err.ensures.unchanged linked))).0

pub returns-in-Err-clause-returned : goal.returns-in-Err-clause-returned
returns-in-Err-clause-returned g t c = (when_linked g.met.S.K.Ord.total g.S.Argument.Argument.is_summary (g.S.NodeStore.slots c.args.store.now) (g.S.NodeStore.slots c.link_at.new.store) c.args.path.now c.args.division c.requires.climbs.0 c.pop.new.self c.in-Some.id c.in-Some.index c.in-Some.field-0-2 c.in-Some.ensures.some c.in_ok-above.field-0.old c.in_ok-above.ensures.links
    (λ was here index linked. c.unlink_at.ensures.undoes (g.S.NodeStore.slots c.args.store.now) was c.args.division here index (rw c.in-Err.ensures.unchanged linked))).1

pub ascend_split-requires : goal.ascend_split-requires
ascend_split-requires g t c κs within = (
  omega (arith, ap length c.in-Some.ensures.some, length-append c.pop.new.self ((c.in-Some.id, c.in-Some.index, c.in-Some.field-0-2) ∷ [])),
  (within.0, (within.1.0, (within.1.1.0, (within.1.1.1, (climbs_split g.met.S.K.Ord.total g.S.Argument.Argument.is_summary (g.S.NodeStore.slots c.args.store.now) (g.S.NodeStore.slots c.split_inner_at.new.store) c.args.path.now c.args.division c.requires.climbs.0 c.pop.new.self c.in-Some.id c.in-Some.index c.in-Some.field-0-2 c.in-Some.ensures.some c.in_ok-left.field-0.up c.in_ok-left.field-0.node c.in_ok-left.field-0.old c.in_ok-left.ensures.splits c.in_ok-left.field-0.left c.in_ok-left.field-0.right c.in_ok-left.ensures.left c.in_ok-left.ensures.right, c.requires.climbs.1))))),
)

pub undo_split_inner_at-requires-clause-left : goal.undo_split_inner_at-requires-clause-left
undo_split_inner_at-requires-clause-left g t c = rw c.in-Err-ascend_split.ensures.unchanged (sizes_split g.met.S.K.Ord.total g.S.Argument.Argument.is_summary (g.S.NodeStore.slots c.args.store.now) (g.S.NodeStore.slots c.split_inner_at.new.store) c.args.path.now c.args.division c.requires.climbs.0 c.pop.new.self c.in-Some.id c.in-Some.index c.in-Some.field-0-2 c.in-Some.ensures.some c.in_ok-left.field-0.up c.in_ok-left.field-0.node c.in_ok-left.field-0.old c.in_ok-left.ensures.splits).0

pub undo_split_inner_at-requires-clause-right : goal.undo_split_inner_at-requires-clause-right
undo_split_inner_at-requires-clause-right g t c = rw c.in-Err-ascend_split.ensures.unchanged (sizes_split g.met.S.K.Ord.total g.S.Argument.Argument.is_summary (g.S.NodeStore.slots c.args.store.now) (g.S.NodeStore.slots c.split_inner_at.new.store) c.args.path.now c.args.division c.requires.climbs.0 c.pop.new.self c.in-Some.id c.in-Some.index c.in-Some.field-0-2 c.in-Some.ensures.some c.in_ok-left.field-0.up c.in_ok-left.field-0.node c.in_ok-left.field-0.old c.in_ok-left.ensures.splits).1

pub undo_split_inner_at-requires-clause-apart : goal.undo_split_inner_at-requires-clause-apart
undo_split_inner_at-requires-clause-apart g t c = (sizes_split g.met.S.K.Ord.total g.S.Argument.Argument.is_summary (g.S.NodeStore.slots c.args.store.now) (g.S.NodeStore.slots c.split_inner_at.new.store) c.args.path.now c.args.division c.requires.climbs.0 c.pop.new.self c.in-Some.id c.in-Some.index c.in-Some.field-0-2 c.in-Some.ensures.some c.in_ok-left.field-0.up c.in_ok-left.field-0.node c.in_ok-left.field-0.old c.in_ok-left.ensures.splits).2

pub undo_split_inner_at-requires-clause-index : goal.undo_split_inner_at-requires-clause-index
undo_split_inner_at-requires-clause-index g t c = index_split g.met.S.K.Ord.total g.S.Argument.Argument.is_summary (g.S.NodeStore.slots c.args.store.now) (g.S.NodeStore.slots c.split_inner_at.new.store) c.args.path.now c.args.division c.requires.climbs.0 c.pop.new.self c.in-Some.id c.in-Some.index c.in-Some.field-0-2 c.in-Some.ensures.some c.in_ok-left.field-0.up c.in_ok-left.field-0.node c.in_ok-left.field-0.old c.in_ok-left.ensures.splits

pub returns-in-Ok-ascend_split-clause-rises : goal.returns-in-Ok-ascend_split-clause-rises
returns-in-Ok-ascend_split-clause-rises g t c climbs same =
    reaches_split g.met.S.K.Ord.total g.S.Argument.Argument.is_summary (g.S.NodeStore.slots c.args.store.now) (g.S.NodeStore.slots c.split_inner_at.new.store) c.args.path.now c.args.division climbs.0 c.pop.new.self c.in-Some.id c.in-Some.index c.in-Some.field-0-2 c.in-Some.ensures.some c.in_ok-left.field-0.up c.in_ok-left.field-0.node c.in_ok-left.field-0.old c.in_ok-left.ensures.splits c.in_ok-left.field-0.left c.in_ok-left.field-0.right c.in_ok-left.ensures.left c.in_ok-left.ensures.right
    (g.S.NodeStore.slots c.ascend_split.new.store) c.in-Ok-ascend_split.top.0 c.in-Ok-ascend_split.top.1 (c.in-Ok-ascend_split.ensures.rises (climbs_split g.met.S.K.Ord.total g.S.Argument.Argument.is_summary (g.S.NodeStore.slots c.args.store.now) (g.S.NodeStore.slots c.split_inner_at.new.store) c.args.path.now c.args.division climbs.0 c.pop.new.self c.in-Some.id c.in-Some.index c.in-Some.field-0-2 c.in-Some.ensures.some c.in_ok-left.field-0.up c.in_ok-left.field-0.node c.in_ok-left.field-0.old c.in_ok-left.ensures.splits c.in_ok-left.field-0.left c.in_ok-left.field-0.right c.in_ok-left.ensures.left c.in_ok-left.ensures.right, climbs.1) same)

pub returns-in-Err-ascend_split-clause-unchanged : goal.returns-in-Err-ascend_split-clause-unchanged
returns-in-Err-ascend_split-clause-unchanged g t c = (when_split g.met.S.K.Ord.total g.S.Argument.Argument.is_summary (g.S.NodeStore.slots c.args.store.now) (g.S.NodeStore.slots c.split_inner_at.new.store) c.args.path.now c.args.division c.requires.climbs.0 c.pop.new.self c.in-Some.id c.in-Some.index c.in-Some.field-0-2 c.in-Some.ensures.some c.in_ok-left.field-0.up c.in_ok-left.field-0.node c.in_ok-left.field-0.old c.in_ok-left.ensures.splits
    (λ was here index full split. c.undo_split_inner_at.ensures.undoes (g.S.NodeStore.slots c.args.store.now) was c.args.division here index full (rw (c.in-Err-ascend_split.ensures.unchanged, c.in-Err-ascend_split.ensures.returned) split))).0

pub returns-in-Err-ascend_split-clause-returned : goal.returns-in-Err-ascend_split-clause-returned
returns-in-Err-ascend_split-clause-returned g t c = (when_split g.met.S.K.Ord.total g.S.Argument.Argument.is_summary (g.S.NodeStore.slots c.args.store.now) (g.S.NodeStore.slots c.split_inner_at.new.store) c.args.path.now c.args.division c.requires.climbs.0 c.pop.new.self c.in-Some.id c.in-Some.index c.in-Some.field-0-2 c.in-Some.ensures.some c.in_ok-left.field-0.up c.in_ok-left.field-0.node c.in_ok-left.field-0.old c.in_ok-left.ensures.splits
    (λ was here index full split. c.undo_split_inner_at.ensures.undoes (g.S.NodeStore.slots c.args.store.now) was c.args.division here index full (rw (c.in-Err-ascend_split.ensures.unchanged, c.in-Err-ascend_split.ensures.returned) split))).1

use Rattle.std.proofs.Common.{[]}
use Rattle.std.proofs.lemmas.Result.{IfOk-weaker}
use Rattle.bptree_bulk_load.specs.Rooms.{parts_of}
use Rattle.bptree_tree.proofs.Builds.{all_planned}
use Rattle.bptree_tree.proofs.building.frame_of.Goals as goal

pub frame-requires : goal.frame-requires
frame-requires g c = (parts_of c.args.leaves.now, all_planned g.S.NodeStore.slots c.plan_filled.new.plan c.requires (c.in_ok-plan_filled.ensures [] c.empty_plan-plan.ensures))

pub returns : goal.returns
returns g c = IfOk-weaker c.frame.result _ _ (λ _ framed. framed (parts_of c.args.leaves.now) (all_planned g.S.NodeStore.slots c.plan_filled.new.plan c.requires (c.in_ok-plan_filled.ensures [] c.empty_plan-plan.ensures))) c.frame.ensures

use Rattle.std.proofs.Common.{◌≡◌, [], ap, arith}
use Rattle.std.proofs.lemmas.List.{take_rest}
use Rattle.std.proofs.lemmas.Result.{IfOk-weaker}
use Rattle.bptree_bulk_load.specs.Plans.{PlansAll}
use Rattle.bptree_bulk_load.specs.Rooms.{IsFilledAt}
use Rattle.bptree_bulk.specs.Cut.{upper_parts}
use Rattle.bptree_bulk.proofs.OwnLeaves.{all_read, own_filled, rest_last, rest_present}
use Rattle.bptree_bulk.proofs.SidePlans.{upper_plan}
use Rattle.bptree_bulk.proofs.Sides.{all_behind, within_slice}
use Rattle.bptree_bulk.proofs.side.upper_frame.Given.{Over}
use Rattle.bptree_bulk.proofs.side.upper_frame.Goals.{In_ok-plan_leaves}
use Rattle.bptree_bulk.proofs.side.upper_frame.Goals as goal

pub plan_leaves-requires : goal.plan_leaves-requires
plan_leaves-requires g c =
    let tree = c.args.tree.now in
    let cut = c.args.cut in
    let P = IsFilledAt g.S.K.Ord.cmp in
    all_read g.S.NodeStore.slots (ap (λ t. t.store) c.tree.view_is) (take_rest c.args.ids.now cut.to) P (all_behind (g.S.NodeStore.slots tree.store) c.args.ids.now cut c.requires.cut (P (g.S.NodeStore.slots tree.store)) (own_filled c.recall.ensures.whole c.requires.ids))

pub plan_pieces-requires : goal.plan_pieces-requires
plan_pieces-requires g c = record {
  present = rest_present c.recall.ensures.whole c.requires.ids c.args.cut.from (take_rest c.args.ids.now c.args.cut.from);
  last = rest_last c.recall.ensures.whole c.requires.ids c.args.cut.from (take_rest c.args.ids.now c.args.cut.from);
  count = c.requires.cut.above_some;
  within = omega (arith, within_slice (g.S.NodeStore.slots c.args.tree.now.store) c.args.ids.now c.args.cut c.requires.cut);
  half = c.requires.cut.above_half;
}

-- the leaves of the upper side are planned
planned : (g : Over) (c : In_ok-plan_leaves g) → PlansAll g.S.K.Ord.cmp g.S.Argument.Argument.is_summary g.S.NodeStore.slots c.plan_leaves.new.plan (upper_parts (g.S.NodeStore.slots c.args.tree.now.store) c.args.ids.now c.args.cut)
planned g c =
    let same : c.tree.inside.store ≡ c.args.tree.now.store = ap (λ t. t.store) c.tree.view_is in
    upper_plan c.recall.ensures.whole g.met.S.K.Ord.total c.recall.ensures.ascending c.recall.ensures.fits c.requires.ids c.requires.cut c.plan_leaves.new.plan
    ((rw same at c.in_ok-plan_leaves.ensures) _ (c.in_ok-plan_pieces.ensures [] c.empty_plan-plan.ensures))

pub frame-requires : goal.frame-requires
frame-requires g c = (upper_parts (g.S.NodeStore.slots c.args.tree.now.store) c.args.ids.now c.args.cut, planned g c)

pub returns : goal.returns
returns g c =
    IfOk-weaker c.frame.result _ _ (λ _ framed. framed (upper_parts (g.S.NodeStore.slots c.args.tree.now.store) c.args.ids.now c.args.cut) (planned g (goal.at.returns g c).In_ok-plan_leaves)) c.frame.ensures

use Rattle.std.proofs.Common.{◌≡◌, [], ap, arith, map, refl, take}
use Rattle.std.proofs.lemmas.List.{take_rest}
use Rattle.std.proofs.lemmas.Result.{IfOk-weaker}
use Rattle.bptree_bulk_load.specs.Plans.{PlansAll}
use Rattle.bptree_bulk_load.specs.Rooms.{pairs_under, IsFilledAt}
use Rattle.bptree_bulk.specs.Cut.{lower_parts}
use Rattle.bptree_bulk.proofs.OwnLeaves.{all_read, own_filled, rest_last, rest_present}
use Rattle.bptree_bulk.proofs.SidePlans.{lower_plan}
use Rattle.bptree_bulk.proofs.Sides.{all_before, within_slice}
use Rattle.bptree_bulk.proofs.side.lower_frame.Given.{Over}
use Rattle.bptree_bulk.proofs.side.lower_frame.Goals.{In_ok-plan_pieces}
use Rattle.bptree_bulk.proofs.side.lower_frame.Goals as goal

pub plan_leaves-requires : goal.plan_leaves-requires
plan_leaves-requires g c =
    let tree = c.args.tree.now in
    let cut = c.args.cut in
    let P = IsFilledAt g.S.K.Ord.cmp in
    all_read g.S.NodeStore.slots (ap (λ t. t.store) c.tree.view_is) refl P (all_before (g.S.NodeStore.slots tree.store) c.args.ids.now cut c.requires.cut (P (g.S.NodeStore.slots tree.store)) (own_filled c.recall.ensures.whole c.requires.ids))

pub plan_pieces-requires : goal.plan_pieces-requires
plan_pieces-requires g c = record {
  present = rest_present c.recall.ensures.whole c.requires.ids c.args.cut.from (take_rest c.args.ids.now c.args.cut.from);
  last = rest_last c.recall.ensures.whole c.requires.ids c.args.cut.from (take_rest c.args.ids.now c.args.cut.from);
  count = c.requires.cut.below_some;
  within = omega (arith, within_slice (g.S.NodeStore.slots c.args.tree.now.store) c.args.ids.now c.args.cut c.requires.cut);
  half = c.requires.cut.below_half;
}

-- the leaves of the lower side are planned
planned : (g : Over) (c : In_ok-plan_pieces g) → PlansAll g.S.K.Ord.cmp g.S.Argument.Argument.is_summary g.S.NodeStore.slots c.plan_pieces.new.plan (lower_parts (g.S.NodeStore.slots c.args.tree.now.store) c.args.ids.now c.args.cut)
planned g c =
    let same : c.tree.inside.store ≡ c.args.tree.now.store = ap (λ t. t.store) c.tree.view_is in
    lower_plan c.recall.ensures.whole g.met.S.K.Ord.total c.recall.ensures.ascending c.recall.ensures.fits c.requires.ids c.requires.cut c.plan_pieces.new.plan
    (c.in_ok-plan_pieces.ensures (map (pairs_under (g.S.NodeStore.slots c.args.tree.now.store)) (take c.args.cut.from c.args.ids.now)) ((rw same at c.in_ok-plan_leaves.ensures) [] c.empty_plan-plan.ensures))

pub frame-requires : goal.frame-requires
frame-requires g c = (lower_parts (g.S.NodeStore.slots c.args.tree.now.store) c.args.ids.now c.args.cut, planned g c)

pub returns : goal.returns
returns g c =
    IfOk-weaker c.frame.result _ _ (λ _ framed. framed (lower_parts (g.S.NodeStore.slots c.args.tree.now.store) c.args.ids.now c.args.cut) (planned g (goal.at.returns g c).In_ok-plan_pieces)) c.frame.ensures

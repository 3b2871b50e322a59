use Rattle.std.proofs.Common.{◌≡◌, ◌∙◌, ◌++◌, [], ap, arith, length-append, map, subst}
use Rattle.bptree_bulk_load.specs.Plans.{Plans, PlansAll}
use Rattle.bptree_bulk_load.specs.Rooms.{pairs_under, IsFilledAt}
use Rattle.bptree_bulk.specs.Joining.{parts_of_both}
use Rattle.bptree_bulk.proofs.Joins.{both_planned, filled_each, least_each}
use Rattle.bptree_bulk.proofs.OwnLeaves.{all_read, own_pairs}
use Rattle.bptree_invariant.specs.Leaves.{pairs_of}
use Rattle.bptree_bulk.proofs.joining.plan_join.Given.{Over}
use Rattle.bptree_bulk.proofs.joining.plan_join.Goals.{In_ok-plan_leaves-2}
use Rattle.bptree_bulk.proofs.joining.plan_join.Goals as goal

-- the leaves of both trees are planned
planned : (g : Over) (c : In_ok-plan_leaves-2 g)
    → PlansAll g.S.K.Ord.cmp g.S.Argument.Argument.is_summary g.S.NodeStore.slots c.plan_leaves-2.new.plan (parts_of_both (g.S.NodeStore.slots c.args.first.now.store) c.in_ok-ids.ids.items (g.S.NodeStore.slots c.args.second.now.store) c.in_ok-others.others.items)
planned g c =
    let one = c.args.first.now in
    let other = c.args.second.now in
    let slots = g.S.NodeStore.slots in
    let cmp = g.S.K.Ord.cmp in
    let is_summary = g.S.Argument.Argument.is_summary in
    let ids = c.in_ok-ids.ids.items in
    let others = c.in_ok-others.others.items in
    let same : c.first.inside.store ≡ one.store = ap (λ t. t.store) c.first.view_is in
    let same' : c.second.inside.store ≡ other.store = ap (λ t. t.store) c.second.view_is in
    let whole = c.recall.ensures.whole in
    let whole' = c.recall-2.ensures.whole in
    let pairs = ap (λ m. m ++ pairs_of (slots other.store) others) (own_pairs whole c.in_ok-ids.ensures) ∙ ap (λ m. one.contents ++ m) (own_pairs whole' c.in_ok-others.ensures) in
    let first = subst (λ xs. Plans cmp is_summary slots c.plan_leaves.new.plan (map (pairs_under (slots one.store)) xs)) c.deref.ensures.value ((rw same at c.in_ok-plan_leaves.ensures) [] c.empty_plan-plan.ensures) in
    let second = subst (λ xs. Plans cmp is_summary slots c.plan_leaves-2.new.plan (map (pairs_under (slots one.store)) ids ++ map (pairs_under (slots other.store)) xs)) c.deref-2.ensures.value ((rw same' at c.in_ok-plan_leaves-2.ensures) (map (pairs_under (slots one.store)) ids) first) in
    let plan = c.plan_leaves-2.new.plan in
    let long = length-append one.contents other.contents in
    both_planned (slots one.store) ids (slots other.store) others is_summary (one.contents ++ other.contents) pairs
    (least_each whole c.in_ok-ids.ensures c.requires.first) (least_each whole' c.in_ok-others.ensures c.requires.second)
    c.requires.below (omega (arith, long, c.requires.first)) (omega (arith, long, c.requires.few)) (slots plan.store) plan.ids.items plan.trees.items second

pub plan_leaves-requires : goal.plan_leaves-requires
plan_leaves-requires g c =
    all_read g.S.NodeStore.slots (ap (λ t. t.store) c.first.view_is) c.deref.ensures.value (IsFilledAt g.S.K.Ord.cmp) (filled_each c.recall.ensures.whole c.in_ok-ids.ensures c.requires.first c.recall.ensures.ascending)

pub plan_leaves-requires-2 : goal.plan_leaves-requires-2
plan_leaves-requires-2 g c =
    all_read g.S.NodeStore.slots (ap (λ t. t.store) c.second.view_is) c.deref-2.ensures.value (IsFilledAt g.S.K.Ord.cmp) (filled_each c.recall-2.ensures.whole c.in_ok-others.ensures c.requires.second c.recall-2.ensures.ascending)

pub frame-requires : goal.frame-requires
frame-requires g c =
    let slots = g.S.NodeStore.slots in
    (parts_of_both (slots c.args.first.now.store) c.in_ok-ids.ids.items (slots c.args.second.now.store) c.in_ok-others.others.items, planned g c)

pub returns : goal.returns
returns g c =
    let slots = g.S.NodeStore.slots in
    let parts = parts_of_both (slots c.args.first.now.store) c.in_ok-ids.ids.items (slots c.args.second.now.store) c.in_ok-others.others.items in
    record {
      first = c.in_ok-ids.ensures;
      second = c.in_ok-others.ensures;
      framed = c.in_ok-frame.ensures parts (planned g (goal.at.returns g c).In_ok-plan_leaves-2);
      room = (c.in_ok-leaves.ensures.items, c.in_ok-leaves.ensures.len, omega (arith, c.in_ok-leaves.ensures.exact, c.len.ensures, c.len-2.ensures));
    }

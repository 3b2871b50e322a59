use Rattle.std.proofs.Common.{◌≡◌, ◌∙◌, ◌-◌, ◌≤◌, ◌++◌, [], List, ap, append_assoc, arith, drop, length, map, subst, sym, take}
use Rattle.std.proofs.lemmas.List.{take_rest}
use Rattle.std.specs.List.{AllByRecursion}
use Rattle.bptree_bulk_load.specs.Plans.{Plans, PlansAll}
use Rattle.bptree_bulk_load.specs.Rooms.{pairs_under, IsFilledAt}
use Rattle.bptree_bulk.specs.Filling.{AreParts, IsEmptyLeaf}
use Rattle.bptree_bulk.specs.Gap.{gap_begins, gap_ends, kept_of, without_part, IsGap}
use Rattle.bptree_bulk.specs.Positions.{index_of_position}
use Rattle.bptree_bulk.specs.Removing.{border_kept, parts_around}
use Rattle.bptree_bulk.proofs.Gaps.{behind_in_rest, kept_within}
use Rattle.bptree_bulk.proofs.OwnLeaves.{all_read, own_filled, own_least, own_pairs, rest_last, rest_present}
use Rattle.bptree_bulk.proofs.Removals.{all_before, all_behind, around_planned}
use Rattle.bptree_keys.specs.Contents.{IsAscending}
use Rattle.bptree_invariant.specs.Leaves.{pairs_of}
use Rattle.bptree_bulk.proofs.removing.plan_removal.Given.{Over}
use Rattle.bptree_bulk.proofs.removing.plan_removal.Goals.{After-gap_between-gap, After-deref-3, After-deref-4, In_ok-plan_leaves-2}
use Rattle.bptree_bulk.proofs.removing.plan_removal.Goals as goal

-- the gap among the leaves of the tree
is_gap : (g : Over) (c : After-gap_between-gap g) → IsGap (g.S.NodeStore.slots c.args.tree.now.store) c.in_ok-ids.ids.items c.gap_between-gap.result
is_gap g c = subst (λ xs. IsGap (g.S.NodeStore.slots c.args.tree.now.store) xs c.gap_between-gap.result) c.deref.ensures.value c.gap_between-gap.ensures.gap

-- the leaves from the border on
from_border : (g : Over) (c : After-deref-3 g) → take (length c.deref-3.result.now - c.gap_between-gap.result.from) (drop c.gap_between-gap.result.from c.deref-3.result.now) ≡ drop c.gap_between-gap.result.from c.in_ok-ids.ids.items
from_border g c = take_rest c.deref-3.result.now c.gap_between-gap.result.from ∙ ap (drop c.gap_between-gap.result.from) c.deref-3.ensures.value

-- the leaves behind the border
behind_border : (g : Over) (c : After-deref-4 g) → take (length c.deref-4.result.now - c.gap_between-gap.result.to) (drop c.gap_between-gap.result.to c.deref-4.result.now) ≡ drop c.gap_between-gap.result.to c.in_ok-ids.ids.items
behind_border g c = take_rest c.deref-4.result.now c.gap_between-gap.result.to ∙ ap (drop c.gap_between-gap.result.to) c.deref-4.ensures.value

-- the parts of the border's pairs that stay, and all parts of the new tree
parts_of_border : (g : Over) (c : In_ok-plan_leaves-2 g) → (parts : List (List (g.row.S-K.Denot × g.row.S-V.Denot))) × AreParts (border_kept (g.S.NodeStore.slots c.args.tree.now.store) c.in_ok-ids.ids.items c.gap_between-gap.result) parts []
    × PlansAll g.S.K.Ord.cmp g.S.Argument.Argument.is_summary g.S.NodeStore.slots c.plan_leaves-2.new.plan (parts_around (g.S.NodeStore.slots c.args.tree.now.store) c.in_ok-ids.ids.items c.gap_between-gap.result parts)
    × AllByRecursion IsEmptyLeaf c.in_ok-rooms.rooms.items × (length c.in_ok-rooms.rooms.items ≡ length parts)
parts_of_border g c =
    let at = goal.at.frame-requires g c in
    let tree = c.args.tree.now in
    let slots = g.S.NodeStore.slots in
    let cmp = g.S.K.Ord.cmp in
    let is_summary = g.S.Argument.Argument.is_summary in
    let ids = c.in_ok-ids.ids.items in
    let gap = c.gap_between-gap.result in
    let same : c.tree.inside.store ≡ tree.store = ap (λ t. t.store) c.tree.view_is in
    let contents = own_pairs c.recall.ensures.whole c.in_ok-ids.ensures in
    let border = c.in_ok-rooms.ensures in
    let parts = border.0 in
    let are = subst (λ xs. AreParts (kept_of gap (pairs_of (slots tree.store) xs)) parts []) (from_border g at.After-deref-3) border.1 in
    let under = map (pairs_under (slots tree.store)) in
    let first = subst (λ xs. Plans cmp is_summary slots c.plan_leaves.new.plan (under (take gap.from xs))) c.deref-2.ensures.value ((rw same at c.in_ok-plan_leaves.ensures) [] c.empty_plan-plan.ensures) in
    let second = border.2 (under (take gap.from ids)) first in
    let third = (rw same at c.in_ok-plan_leaves-2.ensures) (under (take gap.from ids) ++ parts) second in
    let planned = subst (Plans cmp is_summary slots c.plan_leaves-2.new.plan) (ap (λ xs. (under (take gap.from ids) ++ parts) ++ under xs) (behind_border g at.After-deref-4) ∙ append_assoc (under (take gap.from ids)) parts (under (drop gap.to ids))) third in
    let plan = c.plan_leaves-2.new.plan in (
      parts,
      are,
      around_planned (slots tree.store) ids gap (is_gap g at.After-gap_between-gap) parts are (own_least c.recall.ensures.whole c.in_ok-ids.ensures) g.met.S.K.Ord.total is_summary (subst (IsAscending cmp) (sym contents) c.recall.ensures.ascending) (omega (arith, c.recall.ensures.fits, ap length contents)) (slots plan.store) plan.ids.items plan.trees.items planned,
      border.3,
      border.4,
    )

pub plan_leaves-requires : goal.plan_leaves-requires
plan_leaves-requires g c =
    let at = goal.at.plan_leaves-requires g c in
    let slots = g.S.NodeStore.slots in
    let P = IsFilledAt g.S.K.Ord.cmp in
    all_read slots (ap (λ t. t.store) c.tree.view_is) (ap (take c.gap_between-gap.result.from) c.deref-2.ensures.value) P (all_before (slots c.args.tree.now.store) c.in_ok-ids.ids.items c.gap_between-gap.result (is_gap g at.After-gap_between-gap) (P (slots c.args.tree.now.store)) (own_filled c.recall.ensures.whole c.in_ok-ids.ensures))

pub plan_border-requires : goal.plan_border-requires
plan_border-requires g c =
    let at = goal.at.plan_border-requires g c in
    let slots = g.S.NodeStore.slots c.args.tree.now.store in
    let ids = c.in_ok-ids.ids.items in
    let gap = c.gap_between-gap.result in
    let is = is_gap g at.After-gap_between-gap in
    let rest = from_border g at.After-deref-3 in
    record {
      present = rest_present c.recall.ensures.whole c.in_ok-ids.ensures gap.from rest;
      last = rest_last c.recall.ensures.whole c.in_ok-ids.ensures gap.from rest;
      order = is.rises;
      behind = omega (arith, behind_in_rest slots ids gap is, ap (λ xs. length (pairs_of slots xs)) rest);
      within = subst (λ xs. gap.count ≤ length (without_part gap.before gap.behind (pairs_of slots xs))) (sym rest) (kept_within slots ids gap is);
    }

pub plan_leaves-requires-2 : goal.plan_leaves-requires-2
plan_leaves-requires-2 g c =
    let at = goal.at.plan_leaves-requires-2 g c in
    let slots = g.S.NodeStore.slots in
    let P = IsFilledAt g.S.K.Ord.cmp in
    all_read slots (ap (λ t. t.store) c.tree.view_is) (behind_border g at.After-deref-4) P (all_behind (slots c.args.tree.now.store) c.in_ok-ids.ids.items c.gap_between-gap.result (is_gap g at.After-gap_between-gap) (P (slots c.args.tree.now.store)) (own_filled c.recall.ensures.whole c.in_ok-ids.ensures))

pub frame-requires : goal.frame-requires
frame-requires g c =
    let border = parts_of_border g c in
    (parts_around (g.S.NodeStore.slots c.args.tree.now.store) c.in_ok-ids.ids.items c.gap_between-gap.result border.0, border.2)

pub returns : goal.returns
returns g c =
    let at = goal.at.returns g c in
    let slots = g.S.NodeStore.slots c.args.tree.now.store in
    let ids = c.in_ok-ids.ids.items in
    let gap = c.gap_between-gap.result in
    let border = parts_of_border g at.In_ok-plan_leaves-2 in
    record {
      ids = c.in_ok-ids.ensures;
      gap = is_gap g at.After-gap_between-gap;
      begins = subst (λ xs. gap_begins slots xs gap ≡ index_of_position g.S.NodeStore.slots c.args.tree.now c.args.lo) c.deref.ensures.value c.gap_between-gap.ensures.begins;
      ends = subst (λ xs. gap_ends slots xs gap ≡ index_of_position g.S.NodeStore.slots c.args.tree.now c.args.hi) c.deref.ensures.value c.gap_between-gap.ensures.ends;
      parts = border.0;
      are = border.1;
      framed = c.in_ok-frame.ensures (parts_around slots ids gap border.0) border.2;
      empty = border.3;
      as_many = border.4;
      leaves = (c.in_ok-leaves.ensures.items, c.in_ok-leaves.ensures.len, omega (arith, c.in_ok-leaves.ensures.exact, c.len.ensures, c.len-2.ensures, border.4));
      old = (c.in_ok-old.ensures.items, c.in_ok-old.ensures.len, omega (arith, c.in_ok-old.ensures.exact, c.len-3.ensures));
      pairs = (c.in_ok-pairs.ensures.items, c.in_ok-pairs.ensures.len, omega (arith, c.in_ok-pairs.ensures.exact));
    }

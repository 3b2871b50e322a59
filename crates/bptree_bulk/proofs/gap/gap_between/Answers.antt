use Rattle.std.proofs.Common.{rules, ◌≡◌, ◌∙◌, ◌+◌, ◌-◌, ◌<◌, ◌≤◌, ◌^◌, length, take, drop, arith, ap, refl, sym}
use Rattle.bptree_bulk_load.specs.Rooms.{IsPresentAt}
use Rattle.bptree_bulk.specs.Cut.{pairs_before, BeginsBorder, EndsBorder}
use Rattle.bptree_bulk.proofs.Gaps.{are_spots, gap_made, pairs_between, pairs_within, AreSpots}
use Rattle.bptree_bulk.proofs.OwnLeaves.{all_read, own_least, own_pairs, own_present}
use Rattle.bptree_bulk.proofs.Sides.{all_dropped, all_taken}
use Rattle.bptree_invariant.specs.Leaves.{pairs_of}
use Rattle.bptree_invariant.specs.Shape.{leaf_pairs}
use Rattle.bptree_bulk.proofs.gap.gap_between.Given.{Over}
use Rattle.bptree_bulk.proofs.gap.gap_between.Goals.{After-count_pairs, After-index_of-j, After-leaf_before-from, After-leaf_behind-to, After-len-here}
use Rattle.bptree_bulk.proofs.gap.gap_between.Goals as goal

-- the indexes of both positions' leaves; the sums fit
spots_of : (g : Over) (c : After-index_of-j g) → AreSpots (g.S.NodeStore.slots c.args.tree.now.store) c.args.tree.now.height c.args.tree.now.root c.args.ids.now c.args.lo c.args.hi c.index_of-i.result c.index_of-j.result
spots_of g c =
    let tree = c.args.tree.now in
    are_spots (g.S.NodeStore.slots tree.store) tree.height tree.root c.args.ids.now c.args.lo c.args.hi c.index_of-i.result c.index_of-j.result
    g.S.Argument.Argument.is_summary c.recall.ensures.whole.shape c.requires.ids c.requires.lo.on c.requires.hi.on c.requires.order c.index_of-i.ensures c.index_of-j.ensures

few_of : (g : Over) (c : After-index_of-j g) → length (pairs_of (g.S.NodeStore.slots c.args.tree.now.store) c.args.ids.now) < 2 ^ 64
few_of g c = omega (arith, c.recall.ensures.fits, ap length (own_pairs c.recall.ensures.whole c.requires.ids))

-- the border begins at the leaf before the first position's leaf, or at that leaf
begins_of : (g : Over) (c : After-leaf_before-from g) → BeginsBorder (g.S.NodeStore.slots c.args.tree.now.store) c.args.ids.now c.index_of-i.result c.leaf_before-from.result.0 c.leaf_before-from.result.1
begins_of g c =
    let same : c.tree.inside.store ≡ c.args.tree.now.store = ap (λ t. t.store) c.tree.view_is in
    rw same at c.leaf_before-from.ensures

ends_of : (g : Over) (c : After-leaf_behind-to g) → EndsBorder (g.S.NodeStore.slots c.args.tree.now.store) c.args.ids.now (c.index_of-j.result + 1) c.leaf_behind-to.result.0 c.leaf_behind-to.result.1
ends_of g c =
    let same : c.tree.inside.store ≡ c.args.tree.now.store = ap (λ t. t.store) c.tree.view_is in
    rw same at c.leaf_behind-to.ensures

-- the pairs before the second position's leaf are those before the border, and those counted
inner_of : (g : Over) (c : After-count_pairs g) → c.index_of-i.result ≤ c.index_of-j.result
    → pairs_before (g.S.NodeStore.slots c.args.tree.now.store) c.args.ids.now c.index_of-j.result ≡ pairs_before (g.S.NodeStore.slots c.args.tree.now.store) c.args.ids.now c.leaf_before-from.result.0 + c.count_pairs.result
inner_of g c order =
    let slots = g.S.NodeStore.slots c.args.tree.now.store in
    let from = c.leaf_before-from.result.0 in
    let same : c.tree.inside.store ≡ c.args.tree.now.store = ap (λ t. t.store) c.tree.view_is in
    pairs_between slots c.args.ids.now from c.index_of-j.result (omega (arith, c.leaf_before-from.ensures.order, order)) ∙ ap (λ n. pairs_before slots c.args.ids.now from + n) (sym (rw same at c.count_pairs.ensures))

-- the number of pairs in the second position's leaf
here_of : (g : Over) (c : After-len-here g) → c.len-here.result ≡ length (leaf_pairs ((g.S.NodeStore.slots c.args.tree.now.store).leaf c.args.hi.leaf.0))
here_of g c =
    let same : c.tree.inside.store ≡ c.args.tree.now.store = ap (λ t. t.store) c.tree.view_is in
    c.len-here.ensures.value ∙ ap (λ l. length (leaf_pairs l)) (sym (rw same at c.get_leaf.ensures))

pub leaf_before-from-requires : goal.leaf_before-from-requires
leaf_before-from-requires g c =
    let spots = spots_of g (goal.at.leaf_before-from-requires g c).After-index_of-j in
    record {
      present = all_read g.S.NodeStore.slots (ap (λ t. t.store) c.tree.view_is) refl IsPresentAt (own_present c.recall.ensures.whole c.requires.ids);
      within = omega (arith, spots.order, spots.within);
    }

pub leaf_behind-to-requires : goal.leaf_behind-to-requires
leaf_behind-to-requires g c = record {
  present = all_read g.S.NodeStore.slots (ap (λ t. t.store) c.tree.view_is) refl IsPresentAt (own_present c.recall.ensures.whole c.requires.ids);
  within = omega (arith, (spots_of g (goal.at.leaf_behind-to-requires g c).After-index_of-j).within);
}

pub overflow_add-before : goal.overflow_add-before
overflow_add-before g c =
    let at = goal.at.overflow_add-before g c in
    let spots = spots_of g at.After-index_of-j in
    omega (arith, (begins_of g at.After-leaf_before-from).sum, spots.begin, spots.rises, spots.end, spots.next, spots.slot, pairs_within (g.S.NodeStore.slots c.args.tree.now.store) c.args.ids.now (c.index_of-j.result + 1), few_of g at.After-index_of-j)

pub offset_bounds-ids-from : goal.offset_bounds-ids-from
offset_bounds-ids-from g c =
    let spots = spots_of g (goal.at.offset_bounds-ids-from g c).After-index_of-j in
    let within : c.leaf_before-from.result.0 ≤ length c.args.ids.now = omega (arith, spots.order, spots.within, c.leaf_before-from.ensures.order) in
    search rules

pub slice_bounds-count_pairs-count : goal.slice_bounds-count_pairs-count
slice_bounds-count_pairs-count g c = omega (arith, (spots_of g (goal.at.slice_bounds-count_pairs-count g c).After-index_of-j).order, c.leaf_before-from.ensures.order)

pub slice_bounds-count_pairs-start : goal.slice_bounds-count_pairs-start
slice_bounds-count_pairs-start g c =
    let spots = spots_of g (goal.at.slice_bounds-count_pairs-start g c).After-index_of-j in
    let within : c.leaf_before-from.result.0 ≤ length c.args.ids.now = omega (arith, spots.order, spots.within, c.leaf_before-from.ensures.order) in
    search rules

pub count_pairs-requires : goal.count_pairs-requires
count_pairs-requires g c =
    let at = (goal.at.count_pairs-requires g c).After-index_of-j in
    let slots = g.S.NodeStore.slots in
    let ids = c.args.ids.now in
    let from = c.leaf_before-from.result.0 in
    let j = c.index_of-j.result in
    let P = IsPresentAt (slots c.args.tree.now.store) in
    let same : c.tree.inside.store ≡ c.args.tree.now.store = ap (λ t. t.store) c.tree.view_is in
    let between = pairs_between (slots c.args.tree.now.store) ids from j (omega (arith, c.leaf_before-from.ensures.order, (spots_of g at).order)) in
    let few : length (pairs_of (slots c.args.tree.now.store) (take (j - from) (drop from ids))) < 2 ^ 64 = omega (arith, between, few_of g at, pairs_within (slots c.args.tree.now.store) ids j) in
    record {
      present = all_read slots same refl IsPresentAt (all_taken P (j - from) (drop from ids) (all_dropped P from ids (own_present c.recall.ensures.whole c.requires.ids)));
      few = rw same few;
    }

pub overflow_add-behind : goal.overflow_add-behind
overflow_add-behind g c =
    let at = goal.at.overflow_add-behind g c in
    let spots = spots_of g at.After-index_of-j in
    omega (arith, inner_of g at.After-count_pairs spots.order, few_of g at.After-index_of-j, spots.end, spots.next, spots.slot, pairs_within (g.S.NodeStore.slots c.args.tree.now.store) c.args.ids.now (c.index_of-j.result + 1))

pub overflow_add-result : goal.overflow_add-result
overflow_add-result g c =
    let at = goal.at.overflow_add-result g c in
    let spots = spots_of g at.After-index_of-j in
    let within = pairs_within (g.S.NodeStore.slots c.args.tree.now.store) c.args.ids.now c.leaf_behind-to.result.0 in
    omega (arith, (begins_of g at.After-leaf_before-from).sum, spots.begin, spots.rises, spots.end, spots.next, spots.slot, here_of g at.After-len-here, (ends_of g at.After-leaf_behind-to).sum, within, few_of g at.After-index_of-j)

pub overflow_add-result-2 : goal.overflow_add-result-2
overflow_add-result-2 g c =
    let at = goal.at.overflow_add-result-2 g c in
    let spots = spots_of g at.After-index_of-j in
    let within = pairs_within (g.S.NodeStore.slots c.args.tree.now.store) c.args.ids.now c.leaf_behind-to.result.0 in
    omega (arith, (begins_of g at.After-leaf_before-from).sum, spots.begin, spots.rises, spots.end, spots.next, spots.slot, here_of g at.After-len-here, (ends_of g at.After-leaf_behind-to).sum, within, few_of g at.After-index_of-j)

pub returns-clause-gap : goal.returns-clause-gap
returns-clause-gap g c =
    let at = goal.at.returns-clause-gap g c in
    let spots = spots_of g at.After-index_of-j in
    let here = here_of g at.After-len-here in
    let whole = c.recall.ensures.whole in
    gap_made (g.S.NodeStore.slots c.args.tree.now.store) c.args.ids.now c.index_of-i.result c.index_of-j.result c.args.lo.slot c.args.hi.slot c.len-here.result c.leaf_before-from.result.0 c.leaf_behind-to.result.0 c.leaf_before-from.result.1 c.leaf_behind-to.result.1 c.count_pairs.result
    (begins_of g at.After-leaf_before-from) (ends_of g at.After-leaf_behind-to) (omega (arith, spots.next, here)) (omega (arith, spots.slot, here)) spots.within spots.order (omega (arith, spots.rises, spots.begin, spots.end))
    (omega (arith, c.requires.some, spots.begin, spots.end, ap length (own_pairs whole c.requires.ids))) (inner_of g at.After-count_pairs spots.order) (own_least whole c.requires.ids)

pub returns-clause-begins : goal.returns-clause-begins
returns-clause-begins g c =
    let at = goal.at.returns-clause-begins g c in
    omega (arith, (begins_of g at.After-leaf_before-from).sum, (spots_of g at.After-index_of-j).begin)

pub returns-clause-ends : goal.returns-clause-ends
returns-clause-ends g c =
    let at = goal.at.returns-clause-ends g c in
    let spots = spots_of g at.After-index_of-j in
    omega (arith, inner_of g at.After-count_pairs spots.order, spots.end)

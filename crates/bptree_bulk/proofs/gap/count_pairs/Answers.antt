use Rattle.std.proofs.Common.{◌≡◌, ◌∙◌, ◌+◌, length, arith, ap}
use Rattle.bptree_bulk.proofs.Cuts.{all_pairs_before, next_pairs}
use Rattle.bptree_bulk.proofs.Gaps.{pairs_within}
use Rattle.bptree_bulk.specs.Cut.{pairs_before}
use Rattle.bptree_invariant.specs.Shape.{leaf_pairs}
use Rattle.bptree_bulk.proofs.gap.count_pairs.Goals as goal

pub overflow_add-count : goal.overflow_add-count
overflow_add-count g c =
    let slots = g.S.NodeStore.slots c.args.store.now in
    let ids = c.args.ids.now in
    let next : pairs_before slots ids (c.ids.i + 1) ≡ pairs_before slots ids c.ids.i + length c.get_leaf.result.now.pairs = next_pairs slots ids c.ids.i (record { 0 = 0 }) c.ids-test.true ∙ ap (λ l. pairs_before slots ids c.ids.i + length (leaf_pairs l)) c.get_leaf.ensures in
    omega (arith, next, c.ids.invariant.count, c.len-count.ensures.value, pairs_within slots ids (c.ids.i + 1), c.requires.few)

pub returns : goal.returns
returns g c =
    let slots = g.S.NodeStore.slots c.args.store.now in
    let end : c.ids.i ≡ length c.args.ids.now = omega (arith, c.ids-test.false, c.ids.invariant.within) in
    c.ids.invariant.count ∙ (ap (pairs_before slots c.args.ids.now) end ∙ all_pairs_before slots c.args.ids.now)

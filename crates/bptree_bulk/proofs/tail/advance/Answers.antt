use Rattle.std.proofs.Common.{◌≡◌, ◌∙◌, ◌<◌, ap, arith, length, sym}
use Rattle.bptree_bulk.specs.Positions.{index_of_position}
use Rattle.bptree_ranges.proofs.Ranged.{reached}
use Rattle.bptree_invariant.specs.Shape.{leaf_pairs, pairs_at}
use Rattle.bptree_bulk.proofs.tail.advance.Goals as goal

pub returns-then-here-eq0 : goal.returns-then-here-eq0
returns-then-here-eq0 g c =
    let tree = c.args.tree.now in
    let slots = g.S.NodeStore.slots tree.store in
    let same : c.tree.inside.store ≡ tree.store = ap (λ t. t.store) c.tree.view_is in
    let at = c.leaves.at in
    let settled = c.leaves.invariant.settled in
    let size : c.len.result ≡ length (leaf_pairs (slots.leaf at.leaf.0)) = c.len.ensures.value ∙ ap (λ l. length (leaf_pairs l)) (sym (rw same at c.get_leaf.ensures)) in
    let ends = reached g.S.Argument.Argument.is_summary slots tree.height tree.root c.recall.ensures.whole.shape at.leaf settled.on.stored in
    let past : index_of_position g.S.NodeStore.slots tree at < length (pairs_at slots tree.height tree.root) → ⊥ = λ less. omega (arith, settled.pair less, size, c.if-here-eq0.true) in
    record {
      settled = settled;
      sum = c.leaves.invariant.sum;
      end = λ some. omega (arith, past, ends, settled.on.within, ap length c.recall.ensures.whole.contents);
    }

use Rattle.std.proofs.Common.{◌≡◌, ◌∙◌, ◌<◌, ap, arith, eq-eqb, eqb-true, length, sym}
use Rattle.bptree_bulk.specs.Positions.{index_of_position}
use Rattle.bptree_ranges.proofs.Ranged.{reached}
use Rattle.bptree_invariant.specs.Shape.{leaf_pairs, pairs_at}
use Rattle.bptree_bulk.proofs.splitting.is_end.Goals as goal

pub returns : goal.returns
returns g c =
    let tree = c.args.tree.now in
    let slots = g.S.NodeStore.slots tree.store in
    let same : c.tree.inside.store ≡ tree.store = ap (λ t. t.store) c.tree.view_is in
    let at = c.args.at in
    let on = c.requires.on in
    let size : c.len.result ≡ length (leaf_pairs (slots.leaf at.leaf.0)) = c.len.ensures.value ∙ ap (λ l. length (leaf_pairs l)) (sym (rw same at c.get_leaf.ensures)) in
    let ends = reached g.S.Argument.Argument.is_summary slots tree.height tree.root c.recall.ensures.whole.shape at.leaf on.stored in
    let all = ap length c.recall.ensures.whole.contents in (
      (λ t. let last : at.slot ≡ c.len.result = eqb-true at.slot c.len.result t in
          let past : index_of_position g.S.NodeStore.slots tree at < length (pairs_at slots tree.height tree.root) → ⊥ = λ less. omega (arith, c.requires.pair less, size, last) in
          omega (arith, past, ends, on.within, all)),
      (λ end. eq-eqb at.slot c.len.result (omega (arith, end, ends, size, on.within, all))),
    )

use Rattle.std.proofs.Common.{◌≡◌, ◌-◌, ◌∙◌, ap, arith, length, slice_get}
use Rattle.bptree_invariant.proofs.Ends.{last_pair}
use Rattle.bptree_search.proofs.neighbours.last_pair.Goals as goal

pub returns : goal.returns
returns g c =
    let tree = c.tree.inside in
    let pairs = c.get_leaf-leaf.result.now.pairs in
    let at : c.saturating_sub.result ≡ length pairs - 1 = omega (arith, c.saturating_sub.ensures, c.len.ensures.value) in
    rw (← c.tree.view_is)
    (c.read_at.ensures ∙ (ap (λ i. slice_get pairs i) at
    ∙ last_pair g.S.K.Ord.cmp (g.S.NodeStore.slots tree.store) tree.height tree.root c.tree.invariant.0.tree c.last_leaf-id.result c.get_leaf-leaf.result.now c.get_leaf-leaf.ensures (rw (← c.tree.view_is) at c.last_leaf-id.ensures)))

use Rattle.std.proofs.Common.{◌≡◌, ◌∙◌, ◌-◌, length, ap, arith, slice_get}
use Rattle.bptree_invariant.proofs.Ends.{last_pair, shown}
use Rattle.bptree_invariant.proofs.nodes.Nodes.last.Goals as goal

pub returns : goal.returns
returns g c =
    let tree = c.self.inside in
    let pairs = c.get_leaf-leaf.result.now.pairs in
    let at : c.saturating_sub.result ≡ length pairs - 1 = omega (arith, c.saturating_sub.ensures, c.len.ensures.value) in
    rw (← c.self.view_is)
    (shown pairs c.saturating_sub.result c.try_data_at.result c.try_data_at.ensures.value c.try_data_at.ensures.variant
    ∙ (ap (λ i. slice_get pairs i) at
    ∙ last_pair g.S.K.Ord.cmp (g.S.NodeStore.slots tree.store) tree.height tree.root c.self.invariant.0.tree c.last_leaf.result c.get_leaf-leaf.result.now c.get_leaf-leaf.ensures (rw (← c.self.view_is) at c.last_leaf.ensures)))

use Rattle.bptree_propagation.proofs.LeafIndexes.{starts_old, if_ok}
use Rattle.bptree_insertion.proofs.insertion.separator.Goals as goal

pub returns : goal.returns
returns g c =
    let node = c.get_leaf.result.now in
    rw c.get_leaf.ensures (if_ok c.clone-2.result _ _ _ c.clone-2.ensures.cases (λ s clone value.
    starts_old g.S.K.Ord.cmp g.met.S.K.Ord.total node.pairs c.args.slot s c.args.key.now value (c.data_at.result.0.now, c.data_at.result.1.now)
    (rw c.get_leaf.ensures at c.requires.full) c.requires.slot c.if-slot-eq32.false c.data_at.ensures.value (g.met.S.K.Key.clone_is_equal c.data_at.result.0.now s clone)))

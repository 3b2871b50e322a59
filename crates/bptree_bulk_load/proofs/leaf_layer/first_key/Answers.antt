use Rattle.std.proofs.lemmas.Cmp.{tied_back}
use Rattle.bptree_propagation.proofs.LeafIndexes.{if_ok, starts_from}
use Rattle.bptree_bulk_load.proofs.leaf_layer.first_key.Goals as goal

pub returns : goal.returns
returns g c =
    if_ok c.clone.result _ _ _ c.clone.ensures.cases (λ first clone.
    starts_from g.K.Ord.cmp first c.args.leaf.now.pairs 0 (c.data_at.result.0.now, c.data_at.result.1.now) c.data_at.ensures.value
    (tied_back g.met.K.Ord.total c.data_at.result.0.now first (g.met.K.Key.clone_is_equal c.data_at.result.0.now first clone)))

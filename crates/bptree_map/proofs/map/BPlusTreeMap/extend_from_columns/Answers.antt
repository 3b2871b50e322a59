use Rattle.std.proofs.Common.{◌≡◌, zip}
use Rattle.bptree_map.proofs.ExtendingLemmas.{clones_as_many}
use Rattle.bptree_map.proofs.map.BPlusTreeMap.extend_from_columns.Goals as goal

pub returns-clause-full : goal.returns-clause-full
returns-clause-full g c full =
    rw (clones_as_many g.met.K.Ord.total g.K.Clone.is_clone g.met.K.Key.clone_is_equal (λ v w. w ≡ v) (zip c.args.keys.now c.args.values.now) c.in-Ok.pairs.items c.in-Ok.ensures) (c.extend_from_vec.ensures.full full)

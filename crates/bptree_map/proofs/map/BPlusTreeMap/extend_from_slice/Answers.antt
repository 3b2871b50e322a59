use Rattle.bptree_map.proofs.ExtendingLemmas.{clones_as_many}
use Rattle.bptree_map.proofs.map.BPlusTreeMap.extend_from_slice.Goals as goal

pub returns-clause-full : goal.returns-clause-full
returns-clause-full g c full =
    rw (clones_as_many g.met.K.Ord.total g.K.Clone.is_clone g.met.K.Key.clone_is_equal g.V.Clone.is_clone c.args.pairs.now c.in-Ok.clones.items c.in-Ok.ensures.ok) (c.extend_from_vec.ensures.full full)

use Rattle.std.specs.Map.Iter.{deref}
use Rattle.bptree_merge_iter.proofs.MergedLemmas.{keys_step}
use Rattle.bptree_unit_tests.proofs.callers.merging.gives_the_next_key.Goals as goal

pub returns : goal.returns
returns g c =
    let ran = c.step.ensures.whole in
    rw c.or.ensures (keys_step deref g.K.Ord.cmp _ _ _ _ _ ran.0 ran.1 ran.2)

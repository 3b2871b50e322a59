use Rattle.std.proofs.Common.{◌∙◌}
use Rattle.bptree_set.proofs.BesideNothing.{keys_cmp}
use Rattle.bptree_set.proofs.comparing.BPlusTreeSetOrd.cmp.Goals as goal

pub returns : goal.returns
returns g c = rw (← c.self.view_is, ← c.other.view_is) (c.cmp.ensures ∙ keys_cmp g.K.Ord.cmp _ _)

use Rattle.std.proofs.Common.{◌∙◌}
use Rattle.bptree_set.proofs.BesideNothing.{keys_partial_cmp}
use Rattle.bptree_set.proofs.comparing.BPlusTreeSetPartialOrd.partial_cmp.Goals as goal

pub returns : goal.returns
returns g c = rw (← c.self.view_is, ← c.other.view_is) (c.partial_cmp.ensures ∙ keys_partial_cmp g.K.PartialOrd.partial_cmp _ _)

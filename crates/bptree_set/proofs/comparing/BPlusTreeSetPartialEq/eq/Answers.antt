use Rattle.std.proofs.Common.{◌∙◌}
use Rattle.bptree_set.proofs.BesideNothing.{keys_eq}
use Rattle.bptree_set.proofs.comparing.BPlusTreeSetPartialEq.eq.Goals as goal

pub returns : goal.returns
returns g c = rw (← c.self.view_is, ← c.other.view_is) (c.eq.ensures ∙ keys_eq g.K.PartialEq.eq _ _)

use Rattle.std.proofs.Common.{refl}
use Rattle.bptree_arguments.proofs.group.GroupCountClone.clone.Goals as goal

pub returns-in-Zero : goal.returns-in-Zero
returns-in-Zero g c = record { cases = rw c.in-Zero.is tt }

pub returns-in_ok-clone-in-One : goal.returns-in_ok-clone-in-One
returns-in_ok-clone-in-One g c =
    record { cases = rw c.in-One.is (g.met.G.Key.clone_is_equal _ _ c.in_ok-clone-in-One.ensures.cases, refl) }

pub returns-in_ok-greatest-in-Multiple : goal.returns-in_ok-greatest-in-Multiple
returns-in_ok-greatest-in-Multiple g c =
    record { cases = rw c.in-Multiple.is (g.met.G.Key.clone_is_equal _ _ c.in_ok-least-in-Multiple.ensures.cases, refl, g.met.G.Key.clone_is_equal _ _ c.in_ok-greatest-in-Multiple.ensures.cases, refl, refl) }

use Rattle.std.proofs.Common.{refl}
use Rattle.bptree_stores.proofs.id_state.IdStateClone.clone.Goals as goal

pub returns-in_ok-clone-in-Occupied : goal.returns-in_ok-clone-in-Occupied
returns-in_ok-clone-in-Occupied g c =
    record { cases = rw c.in-Occupied.is (c.in_ok-clone-in-Occupied.field-0, refl, c.in_ok-clone-in-Occupied.ensures.cases) }

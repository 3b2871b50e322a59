use Rattle.bptree_commands.proofs.walk.walk.Goals as goal

pub returns-in-Ok : goal.returns-in-Ok
returns-in-Ok g c = rw c.as_slice.ensures.value at c.in-Ok.ensures

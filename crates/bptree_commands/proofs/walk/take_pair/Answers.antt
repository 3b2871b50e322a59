use Rattle.bptree_commands.proofs.EndLemmas.{back_taken}
use Rattle.bptree_commands.proofs.walk.take_pair.Goals as goal

pub returns-in-Back : goal.returns-in-Back
returns-in-Back g c = rw c.in-Back.is (back_taken _ _ _ _ c.next_back.ensures.steps)

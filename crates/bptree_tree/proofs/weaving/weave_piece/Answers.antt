use Rattle.std.proofs.Common.{arith}
use Rattle.bptree_tree.proofs.weaving.weave_piece.Goals as goal

pub returns-clause-room : goal.returns-clause-room
returns-clause-room g c = λ more some enough. c.weave_leaf.ensures.room more some (omega (arith, enough, c.take_last-leaf.ensures.len))

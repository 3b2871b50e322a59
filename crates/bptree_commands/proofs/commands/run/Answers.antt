use Rattle.std.proofs.Common.{arith, map}
use Rattle.bptree_tree.specs.Cursor.{cursor_key}
use Rattle.bptree_commands.proofs.commands.run.Goals as goal

-- The result is the error, and there was no room for as many replies as commands.
pub returns-in-Err-clause-run : goal.returns-in-Err-clause-run
returns-in-Err-clause-run g c = λ is. cc is

pub returns-in-Err-clause-all : goal.returns-in-Err-clause-all
returns-in-Err-clause-all g c = (λ is. cc is, λ is. absurd (omega (arith, is, c.in-Err.ensures.full, c.in-Err.ensures.len, c.new-replies.ensures.len)))

pub returns-clause-run : goal.returns-clause-run
returns-clause-run g c = λ _. (map cursor_key c.carry_out_each.new.cursors.items, rw c.new-cursors.ensures.items at c.carry_out_each.ensures.run)

use Rattle.std.proofs.Common.{rules}
use Rattle.bptree_commands.proofs.reply.carry_out.Goals as goal

pub returns-in-Back-clause-replies : goal.returns-in-Back-clause-replies
returns-in-Back-clause-replies g c =
    let sent = rw c.iter-in-Back.ensures.rest at c.send_pairs-in-Back.ensures in
    rw c.in-Back.is (search rules)

use Rattle.bptree_commands.proofs.IndexLemmas.{selected_is}
use Rattle.bptree_commands.proofs.reply.pair_at.Goals as goal

pub returns : goal.returns
returns g c = selected_is c.args.index c.args.tree.now.contents _ c.in-Ok.ensures.selected

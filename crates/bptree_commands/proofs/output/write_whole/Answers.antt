use Rattle.bptree_commands.proofs.SentLemmas.{wrote_more}
use Rattle.bptree_commands.proofs.output.write_whole.Goals as goal

pub loop-rest-preserved : goal.loop-rest-preserved
loop-rest-preserved g c = wrote_more _ _ _ c.args.bytes.now c.loop-rest.rest.now c.in-Ok.n c.in-Ok.ensures.bound c.loop-rest.invariant c.in-Ok.ensures.bytes

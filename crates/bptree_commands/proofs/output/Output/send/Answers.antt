use Rattle.std.proofs.lemmas.Result.{err_from_is_err_and}
use Rattle.bptree_commands.proofs.SentLemmas.{AppendsBeginning-longer}
use Rattle.bptree_commands.proofs.output.Output.send.Goals as goal

pub returns-in_err-drain : goal.returns-in_err-drain
returns-in_err-drain g c =
    let p = err_from_is_err_and c.from_residual.result c.from_residual.ensures.1 in
    rw (p.1, p.2) (c.in_err-drain.ensures.1.0, (c.in_err-drain.ensures.0, AppendsBeginning-longer _ _ c.args.self.now.held c.args.bytes.now c.in_err-drain.ensures.1.1))

use Rattle.std.proofs.Common.{decimal}
use Rattle.std.proofs.lemmas.Result.{err_from_is_err_and}
use Rattle.bptree_commands.proofs.SentLemmas.{SendsOrFails-then, SendsOrFails-cut}
use Rattle.bptree_commands.proofs.reply.send_labelled.Goals as goal

pub returns-in_err-send : goal.returns-in_err-send
returns-in_err-send g c =
    let p = err_from_is_err_and c.from_residual.result c.from_residual.ensures.1 in
    SendsOrFails-cut _ _ c.args.label.now (decimal c.args.n) _ _ _ p.1 p.2 c.in_err-send.ensures

pub returns : goal.returns
returns g c =
    SendsOrFails-then _ c.send.new.self _ c.args.label.now (decimal c.args.n) _ c.in_ok-send.ensures c.send_number.ensures

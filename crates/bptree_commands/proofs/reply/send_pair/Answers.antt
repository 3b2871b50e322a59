use Rattle.std.proofs.Common.{decimal, ◌∷◌, []}
use Rattle.std.proofs.lemmas.Result.{err_from_is_err_and}
use Rattle.bptree_commands.proofs.SentLemmas.{SendsOrFails-then, SendsOrFails-cut}
use Rattle.bptree_commands.proofs.reply.send_pair.Goals as goal

pub returns-in_err-send_number : goal.returns-in_err-send_number
returns-in_err-send_number g c =
    let p = err_from_is_err_and c.from_residual.result c.from_residual.ensures.1 in
    SendsOrFails-cut _ _ (decimal c.args.key) (32 ∷ decimal c.args.value) _ _ _ p.1 p.2 c.in_err-send_number.ensures

pub returns-in_err-send : goal.returns-in_err-send
returns-in_err-send g c =
    let p = err_from_is_err_and c.from_residual-in_err-send.result c.from_residual-in_err-send.ensures.1 in
    SendsOrFails-then _ c.send_number.new.out _ (decimal c.args.key) (32 ∷ decimal c.args.value) _ c.in_ok-send_number.ensures
    (SendsOrFails-cut _ _ (32 ∷ []) (decimal c.args.value) _ _ _ p.1 p.2 c.in_err-send.ensures)

pub returns : goal.returns
returns g c =
    SendsOrFails-then _ c.send_number.new.out _ (decimal c.args.key) (32 ∷ decimal c.args.value) _ c.in_ok-send_number.ensures
    (SendsOrFails-then _ c.send.new.self _ (32 ∷ []) (decimal c.args.value) _ c.in_ok-send.ensures c.send_number-2.ensures)

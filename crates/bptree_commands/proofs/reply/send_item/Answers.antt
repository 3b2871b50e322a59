use Rattle.std.proofs.Common.{◌∷◌, []}
use Rattle.std.proofs.lemmas.Result.{err_from_is_err_and}
use Rattle.bptree_commands.specs.ReplyLists.{pair_text}
use Rattle.bptree_commands.proofs.SentLemmas.{SendsOrFails-then, SendsOrFails-cut}
use Rattle.bptree_commands.proofs.reply.send_item.Goals as goal

pub returns-in_err-send : goal.returns-in_err-send
returns-in_err-send g c =
    let p = err_from_is_err_and c.from_residual.result c.from_residual.ensures.1 in
    rw c.if-is_first.false (SendsOrFails-cut _ _ (44 ∷ []) (pair_text (c.args.key, c.args.value)) _ _ _ p.1 p.2 c.in_err-send.ensures)

pub returns : goal.returns
returns g c =
    rw c.if-is_first.false (SendsOrFails-then _ c.send.new.self _ (44 ∷ []) (pair_text (c.args.key, c.args.value)) _ c.in_ok-send.ensures c.send_pair-2.ensures)

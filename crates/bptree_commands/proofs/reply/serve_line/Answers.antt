use Rattle.std.proofs.Common.{◌∷◌, []}
use Rattle.std.proofs.lemmas.Result.{err_from_is_err_and}
use Rattle.bptree_protocol.specs.Request.{request_of}
use Rattle.bptree_commands.specs.ReplyLists.{outcome, reply_to}
use Rattle.bptree_commands.proofs.SentLemmas.{Replies-then, Replies-cut}
use Rattle.bptree_commands.proofs.reply.serve_line.Goals as goal

pub returns-in_err-reply_line-clause-replies : goal.returns-in_err-reply_line-clause-replies
unfolding outcome
returns-in_err-reply_line-clause-replies g c =
    let p = err_from_is_err_and c.from_residual.result c.from_residual.ensures.1 in
    Replies-cut _ _ (reply_to c.args.tree.now.contents (request_of c.args.line.now)) (10 ∷ []) _ _ _ p.1 p.2 c.in_err-reply_line.ensures.replies

pub returns-clause-replies : goal.returns-clause-replies
unfolding outcome
returns-clause-replies g c =
    Replies-then _ c.reply_line.new.out _ (reply_to c.args.tree.now.contents (request_of c.args.line.now)) (10 ∷ []) _ c.in_ok-reply_line.ensures.replies c.send.ensures

use Rattle.std.proofs.Common.{rules}
use Rattle.std.proofs.lemmas.Result.{err_from_is_err_and}
use Rattle.bptree_commands.proofs.SessionLemmas.{last_broken, last_cut, last_done}
use Rattle.bptree_commands.proofs.session.reply_last.Goals as goal

pub returns-in_err-drain : goal.returns-in_err-drain
returns-in_err-drain g c =
    let p = err_from_is_err_and c.from_residual-in_err-drain.result c.from_residual-in_err-drain.ensures.1 in
    last_cut _ c.serve_line.new.out c.drain.new.self c.args.tree.now.contents c.args.line.now _ _ _ (search rules) p.1 p.2 c.requires c.in_ok-serve_line.ensures.replies c.in_err-drain.ensures

pub returns-in_err-serve_line : goal.returns-in_err-serve_line
returns-in_err-serve_line g c =
    let p = err_from_is_err_and c.from_residual.result c.from_residual.ensures.1 in
    last_broken _ _ c.args.tree.now.contents c.args.line.now _ _ _ (search rules) p.1 p.2 c.requires c.in_err-serve_line.ensures.replies

pub returns : goal.returns
returns g c =
    last_done _ c.serve_line.new.out c.drain.new.self c.flush-2.new.self c.args.tree.now.contents c.args.line.now _ (search rules) c.requires c.in_ok-serve_line.ensures.replies c.in_ok-drain.ensures.0 c.in_ok-drain.ensures.1.1 c.flush-2.ensures

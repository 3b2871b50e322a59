use Rattle.std.proofs.lemmas.Result.{err_from_is_err_and}
use Rattle.bptree_commands.proofs.SessionLemmas.{piece_done, piece_errs, piece_cut, piece_failed}
use Rattle.bptree_commands.proofs.session.reply_piece.Goals as goal

pub returns-in_err-drain-in-Err-OutOfMemory-clause-outcomes :
    goal.returns-in_err-drain-in-Err-OutOfMemory-clause-outcomes
returns-in_err-drain-in-Err-OutOfMemory-clause-outcomes g c =
    let p = err_from_is_err_and c.from_residual.result c.from_residual.ensures.1 in
    let h = rw c.in-Err-OutOfMemory.field-0-is at c.in-Err-OutOfMemory.ensures.replies in
    piece_cut _ c.take_lines.new.out c.drain-in-Err-OutOfMemory.new.self c.args.tree.now.contents c.args.line.now.items c.args.bytes.now h.0 _ _ _ p.1 p.2 c.requires.empty h.1 c.in_err-drain-in-Err-OutOfMemory.ensures

pub returns-in_ok-drain-in-Err-OutOfMemory-clause-outcomes : goal.returns-in_ok-drain-in-Err-OutOfMemory-clause-outcomes
returns-in_ok-drain-in-Err-OutOfMemory-clause-outcomes g c =
    let h = rw c.in-Err-OutOfMemory.field-0-is at c.in-Err-OutOfMemory.ensures.replies in
    let done = c.in_ok-drain-in-Err-OutOfMemory.ensures in
    piece_errs _ c.take_lines.new.out c.drain-in-Err-OutOfMemory.new.self c.args.tree.now.contents c.args.line.now.items c.args.bytes.now h.0 c.requires.empty h.1 done.0 done.1.1

pub returns-in-Err-Io-clause-outcomes : goal.returns-in-Err-Io-clause-outcomes
returns-in-Err-Io-clause-outcomes g c =
    let h = rw c.in-Err-Io.field-0-is at c.in-Err-Io.ensures.replies in
    piece_failed _ c.take_lines.new.out c.args.tree.now.contents c.args.line.now.items c.args.bytes.now h.0 c.requires.empty h.1

pub returns-in-Ok-clause-outcomes : goal.returns-in-Ok-clause-outcomes
returns-in-Ok-clause-outcomes g c =
    piece_done _ c.take_lines.new.out c.drain.new.self c.args.tree.now.contents c.args.line.now.items c.args.bytes.now _ c.requires.empty c.in-Ok.ensures.replies c.drain.ensures
